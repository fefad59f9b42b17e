-- The commands of the language.
use Rattle.std.specs.Prelude.{ℕ, Bool, true, false, nat_le, Option, Some, None, List, [], ◌∷◌, if◌then◌else◌, codes}
use Rattle.std.specs.Str.{bytes_eq}
use Rattle.entry_tree.specs.Selection.{Search}
use Rattle.cascade_script.specs.declared.grammar.Heading.{Heading}
use Rattle.cascade_script.specs.declared.grammar.Heading.TheVariants as heading
use Rattle.cascade_script.specs.Orders.{Order, order_of}
use Rattle.cascade_script.specs.Orders.Order.{Provider, Consumer, Replica, Clock, OpenOnce, OpenStay, Send, Take, Cut, Settle, Lose, Cookie, Repoint, Respec, Log, Queue, Show}
use Rattle.cascade_script.specs.Words.{◌>>=◌, guarded, otherwise, until, stripped, node_name, named, number, greatest_number, quoted, at_end, name_in, search_in}

-- what a line says: an order, or a write whose record follows
pub data Saying : Type 0 where
  Orders : Order → Saying
  Writes : List ℕ → Saying

abbrev pub saying_of : Heading → Saying
saying_of (heading.Whole command) = Orders (order_of command)
saying_of (heading.Writes name) = Writes name

-- the most messages of one command, and the greatest limit of a log or a queue
abbrev pub most_count : ℕ
most_count = 1000000

-- ---- after the first word

-- `P "SUFFIX"`
unfoldable pub provider_line : List ℕ → Option Saying
provider_line text = do
  node ← named text
  suffix ← quoted node.1
  name ← name_in suffix.0
  _ ← at_end suffix.1
  Some (Orders (Provider node.0 name))

-- `C from P SCOPE "BASE" "FILTER"`, and what stands after it
unfoldable pub following : List ℕ → Option ((List ℕ × List ℕ) × (Search × List ℕ))
following text = do
  node ← named text
  rest ← stripped (codes "from ") node.1
  source ← named rest
  search ← search_in source.1
  Some ((node.0, source.0), search)

-- the end of the line, or ` reload` before it for a consumer that takes a whole copy
-- rather than being refused
unfoldable pub reload_at : List ℕ → Option Bool
reload_at rest =
    if bytes_eq rest (codes " reload") then Some true
    else (do
      _ ← at_end rest
      Some false)

unfoldable pub consumer_line : List ℕ → Option Saying
consumer_line text = do
  x ← following text
  reload ← reload_at x.1.1
  Some (Orders (Consumer x.0.0 x.0.1 x.1.0 reload))

unfoldable pub replica_line : List ℕ → Option Saying
replica_line text = do
  x ← following text
  reload ← reload_at x.1.1
  Some (Orders (Replica x.0.0 x.0.1 x.1.0 reload))

unfoldable pub clock_line : List ℕ → Option Saying
clock_line text = do
  time ← number greatest_number text
  Some (Orders (Clock time))

unfoldable pub write_line : List ℕ → Option Saying
write_line text = do
  name ← node_name text
  Some (Writes name)

unfoldable pub settle_line : List ℕ → Option Saying
settle_line text = do
  name ← node_name text
  Some (Orders (Settle name))

unfoldable pub show_line : List ℕ → Option Saying
show_line text = do
  name ← node_name text
  Some (Orders (Show name))

-- `C once`, or `C stay` for a search that goes on after its refresh
abbrev pub opening_of : List ℕ → List ℕ → Option Saying
opening_of name mode =
    if bytes_eq mode (codes "stay") then Some (Orders (OpenStay name))
    else (do
      _ ← guarded (bytes_eq mode (codes "once"))
      Some (Orders (OpenOnce name)))

unfoldable pub open_line : List ℕ → Option Saying
open_line text = do
  node ← named text
  opening_of node.0 node.1

-- `P N`
unfoldable pub limited : List ℕ → Option (List ℕ × ℕ)
limited text = do
  node ← named text
  limit ← number most_count node.1
  Some (node.0, limit)

unfoldable pub log_line : List ℕ → Option Saying
log_line text = do
  x ← limited text
  Some (Orders (Log x.0 x.1))

unfoldable pub queue_line : List ℕ → Option Saying
queue_line text = do
  x ← limited text
  Some (Orders (Queue x.0 x.1))

-- `C N`, where N is not 0
abbrev pub name_and_count : List ℕ → Option (List ℕ × ℕ)
name_and_count text = do
  node ← named text
  count ← number most_count node.1
  _ ← guarded (nat_le 1 count)
  Some (node.0, count)

-- `C`, which stands for `C 1`, or `C N`
unfoldable pub counted : List ℕ → Option (List ℕ × ℕ)
counted text = otherwise (node_name text) (λ name. Some (name, 1)) (name_and_count text)

unfoldable pub send_line : List ℕ → Option Saying
send_line text = do
  x ← counted text
  Some (Orders (Send x.0 x.1))

unfoldable pub take_line : List ℕ → Option Saying
take_line text = do
  x ← counted text
  Some (Orders (Take x.0 x.1))

unfoldable pub cut_line : List ℕ → Option Saying
cut_line text = do
  name ← node_name text
  Some (Orders (Cut name))

unfoldable pub lose_line : List ℕ → Option Saying
lose_line text = do
  name ← node_name text
  Some (Orders (Lose name))

-- `C "TEXT"`
unfoldable pub cookie_line : List ℕ → Option Saying
cookie_line text = do
  node ← named text
  cookie ← quoted node.1
  _ ← at_end cookie.1
  Some (Orders (Cookie node.0 cookie.0))

-- `C P`
unfoldable pub repoint_line : List ℕ → Option Saying
repoint_line text = do
  node ← named text
  source ← node_name node.1
  Some (Orders (Repoint node.0 source))

-- `C SCOPE "BASE" "FILTER"`
unfoldable pub respec_line : List ℕ → Option Saying
respec_line text = do
  node ← named text
  search ← search_in node.1
  _ ← at_end search.1
  Some (Orders (Respec node.0 search.0))

-- ---- the words that a line may begin with

-- a word, and what the line says after it
pub record Keyword : Type 0 where
  pub word : List ℕ
  pub says : List ℕ → Option Saying

abbrev pub keyword : List ℕ → (List ℕ → Option Saying) → Keyword
keyword word says = record { word = word; says = says }

-- the words of what a consumer holds and wants, and of limits
unfoldable pub holding_keywords : List Keyword
holding_keywords =
    keyword (codes "cookie") cookie_line ∷ keyword (codes "repoint") repoint_line
    ∷ keyword (codes "respec") respec_line
    ∷ keyword (codes "log") log_line ∷ keyword (codes "queue") queue_line ∷ []

-- those, and before them the words of searches and their messages
unfoldable pub search_keywords : List Keyword
search_keywords =
    keyword (codes "open") open_line ∷ keyword (codes "send") send_line
    ∷ keyword (codes "take") take_line
    ∷ keyword (codes "cut") cut_line ∷ keyword (codes "lose") lose_line ∷ holding_keywords

-- all words
abbrev pub keywords : List Keyword
keywords =
    keyword (codes "provider") provider_line ∷ keyword (codes "consumer") consumer_line
    ∷ keyword (codes "replica") replica_line
    ∷ keyword (codes "clock") clock_line ∷ keyword (codes "write") write_line
    ∷ keyword (codes "settle") settle_line
    ∷ keyword (codes "show") show_line ∷ search_keywords

-- what stands after the word of a line that begins with one of these
abbrev pub said_by : List Keyword → List ℕ → List ℕ → Option Saying
said_by [] word rest = None
said_by (k ∷ ks) word rest = if bytes_eq word k.word then k.says rest else said_by ks word rest

-- what a line says, where it is in the grammar
unfoldable pub saying : List ℕ → Option Saying
saying line = do
  words ← until 32 line
  said_by keywords words.0 words.1
