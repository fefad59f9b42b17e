-- A configuration and the file that it names are refused for one cause, or describe a directory.
use Rattle.std.proofs.Common.{◌≡◌, ◌≢◌, ℕ, false, List, [], Option, Some, None, is_some, Result, Ok, Err, inl, inr, refl, sym, ap, subst, ◌∙◌}
use Rattle.std.specs.Prelude.{IsSome}
use Rattle.std.proofs.lemmas.Bool.{false≢true}
use Rattle.sync_config.specs.Keys.{Name}
use Rattle.sync_config.specs.Settings.{ConfigValue, IsReadAs, Refuses, answered, config_of, config_value}
use Rattle.sync_config.specs.Upstreams.{upstream_value}
use Rattle.sync_config.specs.declared.config.Config.{Config}
use Rattle.sync_config.specs.declared.fault.ConfigFault.{ConfigFault}
use Rattle.sync_config.specs.declared.fault.ConfigFault.TheVariants as fault
use Rattle.toml.specs.Data.{Members, table}
use Rattle.toml.specs.Parse.{parse_document}
use Rattle.sync_provider.proofs.Journals.{some_map}
use Rattle.sync_provider.specs.Journal.{JournalledProvider, port_state}
use Rattle.sync_provider.specs.Machine.{ProviderState}
use Rattle.sync_provider.specs.Ports.{PortState}
use Rattle.sync_provider.specs.declared.provider.Kind.{Kind}
use Rattle.directory_setup.specs.Filling.{FillsUp}
use Rattle.directory_setup.specs.Setup.{Configures, Files, IsConfig, IsEmpty, IsFilledBy, IsFirst, IsReady, IsRefusedFile, IsRefusedSetup, IsTooLong, Makes, place_of, reader_of}
use Rattle.directory_setup.specs.Texts.{too_long}
use Rattle.directory_setup.specs.declared.filling.Filling.TheVariants as filling
use Rattle.directory_setup.specs.declared.refusal.LineCause.{LineCause}
use Rattle.directory_setup.specs.declared.refusal.LineCause.TheVariants.{LimitReached}
use Rattle.directory_setup.specs.declared.refusal.SetupRefusal.{SetupRefusal}
use Rattle.directory_setup.specs.declared.refusal.SetupRefusal.TheVariants.{AtLine, InConfig}
use Rattle.directory_setup.specs.declared.refusal.TooLong.{TooLong}
use Rattle.directory_setup.specs.declared.setup.Configured.TheVariants as configured
use Rattle.directory_setup.specs.declared.setup.DirectoryLimits.{DirectoryLimits}
use Rattle.directory_setup.specs.declared.setup.ReadyDirectory.{ReadyDirectory}
use Rattle.directory_setup.specs.declared.setup.Setup.TheVariants.{Refused}
use Rattle.directory_setup.proofs.Alike.{AreAlike, alike_empty}
use Rattle.directory_setup.proofs.OneFilling.{same_filling}
use Rattle.directory_setup.proofs.OneText.{AreOneText, one_file}

-- ---- texts that are too long

never_short : (text : List ℕ) (passed : TooLong) → too_long text ≡ Some passed → too_long text ≡ None → ⊥
never_short text passed long short = let wrong : ◌≡◌ {A = Option TooLong} (Some passed) None = sym long ∙ short in cc

-- one of them is too long, so both are
long_unread : (one other : List ℕ) (refusal : SetupRefusal) → AreOneText one other → IsTooLong one refusal → too_long other ≡ None → ⊥
long_unread one other refusal texts long short =
    never_short one (record { line = long.line; limit = long.limit }) long.passed (texts.passed ∙ short)

refused_as : (one other : TooLong) → ◌≡◌ {A = Option TooLong} (Some one) (Some other) → AtLine one.line (LimitReached one.limit) ≡ AtLine other.line (LimitReached other.limit)
refused_as one other is = let same : one ≡ other = cc in ap (λ (passed : TooLong). AtLine passed.line (LimitReached passed.limit)) same

same_long : (one other : List ℕ) (refusal refusal' : SetupRefusal) → AreOneText one other → IsTooLong one refusal → IsTooLong other refusal' → refusal ≡ refusal'
same_long one other refusal refusal' texts long long' =
    long.refusal_is
    ∙ refused_as (record { line = long.line; limit = long.limit }) (record { line = long'.line; limit = long'.limit })
    (sym long.passed ∙ texts.passed ∙ long'.passed)
    ∙ sym long'.refusal_is

-- ---- the text of a configuration

same_members : (text : List ℕ) (one other : Members) → parse_document text ≡ Some one → parse_document text ≡ Some other → one ≡ other
same_members text one other is is' = let found : ◌≡◌ {A = Option Members} (Some one) (Some other) = sym is ∙ is' in cc

-- it is read in one way
read_once : (text : List ℕ) (one other : Result Config ConfigFault) → IsReadAs text one → IsReadAs text other → answered one ≡ answered other
read_once text one other (members, document, is) (members', document', is') =
    sym is ∙ ap (λ (m : Members). config_of (table m)) (same_members text members members' document.parsed document'.parsed) ∙ is'

-- it is no document, so it is not read
unread : (text : List ℕ) (answer : Result Config ConfigFault) → Refuses text fault.NotToml → IsReadAs text answer → ⊥
unread text answer refuses (members, document, is) =
    let wrong : ◌≡◌ {A = Option Members} None (Some members) = sym (refuses document.encoded) ∙ document.parsed in cc

never_answered : (one : ConfigFault) (value : ConfigValue) → ◌≡◌ {A = Result ConfigValue ConfigFault} (Err one) (Ok value) → ⊥
never_answered one value is = cc

-- a text that is refused is not read as a configuration
unconfigured : (text : List ℕ) (cause : ConfigFault) (config : Config) → cause ≢ fault.NoMemory → Refuses text cause → IsReadAs text (Ok config) → ⊥
unconfigured text fault.NotToml config memory refuses read = unread text (Ok config) refuses read
unconfigured text (fault.MissingKey key) config memory refuses read =
    never_answered (fault.MissingKey key) (config_value config) (read_once text (Err (fault.MissingKey key)) (Ok config) refuses read)
unconfigured text (fault.BadValue key) config memory refuses read =
    never_answered (fault.BadValue key) (config_value config) (read_once text (Err (fault.BadValue key)) (Ok config) refuses read)
unconfigured text fault.NoMemory config memory refuses read = memory refl

same_answer : (one other : ConfigFault) → ◌≡◌ {A = Result ConfigValue ConfigFault} (Err one) (Err other) → one ≡ other
same_answer one other is = cc

read_fault : (text : List ℕ) (one other : ConfigFault) → IsReadAs text (Err one) → IsReadAs text (Err other) → one ≡ other
read_fault text one other is is' = same_answer one other (read_once text (Err one) (Err other) is is')

-- it is refused for one cause
same_cause : (text : List ℕ) (one other : ConfigFault) → one ≢ fault.NoMemory → other ≢ fault.NoMemory → Refuses text one → Refuses text other → one ≡ other
same_cause text fault.NoMemory other memory memory' is is' = absurd (memory refl)
same_cause text fault.NotToml fault.NotToml memory memory' is is' = refl
same_cause text fault.NotToml (fault.MissingKey key) memory memory' is is' = absurd (unread text (Err (fault.MissingKey key)) is is')
same_cause text fault.NotToml (fault.BadValue key) memory memory' is is' = absurd (unread text (Err (fault.BadValue key)) is is')
same_cause text fault.NotToml fault.NoMemory memory memory' is is' = absurd (memory' refl)
same_cause text (fault.MissingKey key) fault.NotToml memory memory' is is' = absurd (unread text (Err (fault.MissingKey key)) is' is)
same_cause text (fault.MissingKey key) (fault.MissingKey other) memory memory' is is' = read_fault text (fault.MissingKey key) (fault.MissingKey other) is is'
same_cause text (fault.MissingKey key) (fault.BadValue other) memory memory' is is' = read_fault text (fault.MissingKey key) (fault.BadValue other) is is'
same_cause text (fault.MissingKey key) fault.NoMemory memory memory' is is' = absurd (memory' refl)
same_cause text (fault.BadValue key) fault.NotToml memory memory' is is' = absurd (unread text (Err (fault.BadValue key)) is' is)
same_cause text (fault.BadValue key) (fault.MissingKey other) memory memory' is is' = read_fault text (fault.BadValue key) (fault.MissingKey other) is is'
same_cause text (fault.BadValue key) (fault.BadValue other) memory memory' is is' = read_fault text (fault.BadValue key) (fault.BadValue other) is is'
same_cause text (fault.BadValue key) fault.NoMemory memory memory' is is' = absurd (memory' refl)

-- ---- one configuration

module _ (files : Files) (name : List ℕ) where
  -- a configuration that is refused is not read
  refused_unread : (refusal : SetupRefusal) (config : Config) → Configures (Some files) name (configured.Refused refusal) → IsConfig (Some files) name config → ⊥
  refused_unread refusal config (text, file, inl long) is = long_unread text is.text refusal (one_file files name text is.text file is.file) long is.short
  refused_unread refusal config (text, file, inr (short, cause, memory, refuses, refusal_is)) is =
      let same : text ≡ is.text = (one_file files name text is.text file is.file).same short in
      unconfigured is.text cause config memory (subst (λ (held : List ℕ). Refuses held cause) same refuses) is.read

  -- it is refused for one cause
  one_config_refusal : (refusal refusal' : SetupRefusal) → Configures (Some files) name (configured.Refused refusal)
      → Configures (Some files) name (configured.Refused refusal') → refusal ≡ refusal'
  one_config_refusal refusal refusal' (text, file, inl long) (text', file', inl long') = same_long text text' refusal refusal' (one_file files name text text' file file') long long'
  one_config_refusal refusal refusal' (text, file, inl long) (text', file', inr (short, cause, memory, refuses, is)) =
      absurd (long_unread text text' refusal (one_file files name text text' file file') long short)
  one_config_refusal refusal refusal' (text, file, inr (short, cause, memory, refuses, is)) (text', file', inl long) =
      absurd (long_unread text' text refusal' (one_file files name text' text file' file) long short)
  one_config_refusal refusal refusal' (text, file, inr (short, cause, memory, refuses, is)) (text', file', inr (short', cause', memory', refuses', is')) =
      let same : text ≡ text' = (one_file files name text text' file file').same short in
      is ∙ ap InConfig (same_cause text' cause cause' memory memory' (subst (λ (held : List ℕ). Refuses held cause) same refuses) refuses') ∙ sym is'

  same_value : (one other : Config) → IsConfig (Some files) name one → IsConfig (Some files) name other → config_value one ≡ config_value other
  same_value one other is is' =
      let same : is.text ≡ is'.text = (one_file files name is.text is'.text is.file is'.file).same is.short in
      let answers : ◌≡◌ {A = Result ConfigValue ConfigFault} (Ok (config_value one)) (Ok (config_value other)) =
      read_once is'.text (Ok one) (Ok other) (subst (λ (held : List ℕ). IsReadAs held (Ok one)) same is.read) is'.read in
      cc

-- ---- the empty directory of a configuration

same_place : (one other : Config) → config_value one ≡ config_value other → place_of one.suffix (is_some one.upstream) ≡ place_of other.suffix (is_some other.upstream)
same_place one other same =
    let follows : is_some one.upstream ≡ is_some other.upstream =
    sym (some_map upstream_value one.upstream) ∙ ap (λ (c : ConfigValue). is_some c.upstream) same ∙ some_map upstream_value other.upstream in
    ap (λ (suffix : Option Name). place_of suffix (is_some one.upstream)) (ap (λ (c : ConfigValue). c.suffix) same)
    ∙ ap (λ b. place_of other.suffix b) follows

-- an empty directory has a suffix, a kind and no writes
record IsPlaced (suffix : Name) (kind : Kind) (p : PortState) : Type 0 where
  pub kind_is : p.kind ≡ kind
  pub suffix_is : p.directory.suffix ≡ suffix
  pub empty : p.directory.writes ≡ []

placed : (suffix : Name) (kind : Kind) (sid : ℕ) (limits : DirectoryLimits) (first : JournalledProvider) → IsEmpty suffix kind sid limits first → IsPlaced suffix kind (port_state first)
placed suffix kind sid limits first empty = record {
  kind_is = ap (λ (s : ProviderState). s.kind) empty.first_is;
  suffix_is = ap (λ (s : ProviderState). s.directory.suffix) empty.first_is;
  empty = ap (λ (s : ProviderState). s.directory.writes) empty.first_is;
}

first_placed : (config : Config) (first : JournalledProvider) → IsFirst config first
    → IsPlaced (place_of config.suffix (is_some config.upstream)).0 (place_of config.suffix (is_some config.upstream)).1 (port_state first)
first_placed config first begins =
    placed (place_of config.suffix (is_some config.upstream)).0 (place_of config.suffix (is_some config.upstream)).1 config.sid
    (record { log = config.log_limit; queue = config.queue_limit }) first begins.empty

same_first : (one other : Config) (first first' : JournalledProvider) → config_value one ≡ config_value other → IsFirst one first → IsFirst other first'
    → AreAlike (port_state first) (port_state first')
same_first one other first first' same begins begins' =
    let here = first_placed one first begins in
    let there = first_placed other first' begins' in
    let place = same_place one other same in
    alike_empty (port_state first) (port_state first')
    (here.kind_is ∙ ap (λ (place : Name × Kind). place.1) place ∙ sym there.kind_is)
    (here.suffix_is ∙ ap (λ (place : Name × Kind). place.0) place ∙ sym there.suffix_is)
    here.empty there.empty

-- ---- the file of a configuration

never_filled : (line : ℕ) (why : LineCause) → filling.Refused line why ≡ filling.Filled → ⊥
never_filled line why is = cc

module _ (files : Files) (p q : PortState) (alike : AreAlike p q) where
  -- a file that is refused does not fill the directory
  refused_unfilled : (name : Option (List ℕ)) (refusal : SetupRefusal) (new : PortState) → IsRefusedFile (Some files) name p refusal → IsFilledBy (Some files) name q new → ⊥
  refused_unfilled None refusal new refused filled = refused
  refused_unfilled (Some name) refusal new (text, file, inl long) (text', file', short, fills) =
      long_unread text text' refusal (one_file files name text text' file file') long short
  refused_unfilled (Some name) refusal new (text, file, inr (short, line, why, left, fills, is)) (text', file', short', fills') =
      let same : text ≡ text' = (one_file files name text text' file file').same short in
      never_filled line why
      (same_filling (reader_of text') p q left new (filling.Refused line why) filling.Filled alike
      (subst (λ (held : List ℕ). FillsUp (reader_of held) p (filling.Refused line why) left) same fills) fills')

  -- it is refused for one cause
  one_file_refusal : (name : Option (List ℕ)) (refusal refusal' : SetupRefusal) → IsRefusedFile (Some files) name p refusal → IsRefusedFile (Some files) name q refusal' → refusal ≡ refusal'
  one_file_refusal None refusal refusal' refused refused' = absurd refused
  one_file_refusal (Some name) refusal refusal' (text, file, inl long) (text', file', inl long') =
      same_long text text' refusal refusal' (one_file files name text text' file file') long long'
  one_file_refusal (Some name) refusal refusal' (text, file, inl long) (text', file', inr (short, line, why, left, fills, is)) =
      absurd (long_unread text text' refusal (one_file files name text text' file file') long short)
  one_file_refusal (Some name) refusal refusal' (text, file, inr (short, line, why, left, fills, is)) (text', file', inl long) =
      absurd (long_unread text' text refusal' (one_file files name text' text file' file) long short)
  one_file_refusal (Some name) refusal refusal' (text, file, inr (short, line, why, left, fills, is)) (text', file', inr (short', line', why', left', fills', is')) =
      let same : text ≡ text' = (one_file files name text text' file file').same short in
      let ends : filling.Refused line why ≡ filling.Refused line' why' =
      same_filling (reader_of text') p q left left' (filling.Refused line why) (filling.Refused line' why') alike
      (subst (λ (held : List ℕ). FillsUp (reader_of held) p (filling.Refused line why) left) same fills) fills' in
      is ∙ at_line line line' why why' ends ∙ sym is'
    where
      at_line : (line line' : ℕ) (why why' : LineCause) → filling.Refused line why ≡ filling.Refused line' why' → AtLine line why ≡ AtLine line' why'
      at_line line line' why why' is = cc

-- ---- what is refused

-- a configuration whose file is refused
abbrev IsRefusedByFile : Option Files → List ℕ → SetupRefusal → Type 0
IsRefusedByFile files name refusal = (config : Config) × IsConfig files name config × Makes files config (Refused refusal)

module _ (files : Files) (name : List ℕ) where
  files_agree : (refusal refusal' : SetupRefusal) → IsRefusedByFile (Some files) name refusal → IsRefusedByFile (Some files) name refusal' → refusal ≡ refusal'
  files_agree refusal refusal' (config, is, (first, begins, refused)) (config', is', (first', begins', refused')) =
      let same = same_value files name config config' is is' in
      one_file_refusal files (port_state first) (port_state first') (same_first config config' first first' same begins begins') config'.ldif refusal refusal'
      (subst (λ (ldif : Option (List ℕ)). IsRefusedFile (Some files) ldif (port_state first) refusal) (ap (λ (c : ConfigValue). c.ldif) same) refused) refused'

  known_refusal : (refusal refusal' : SetupRefusal) → IsRefusedSetup (Some files) name refusal → IsRefusedSetup (Some files) name refusal' → refusal ≡ refusal'
  known_refusal refusal refusal' (inl one) (inl other) = one_config_refusal files name refusal refusal' one other
  known_refusal refusal refusal' (inl one) (inr (config, is, makes)) = absurd (refused_unread files name refusal config one is)
  known_refusal refusal refusal' (inr (config, is, makes)) (inl other) = absurd (refused_unread files name refusal' config other is)
  known_refusal refusal refusal' (inr one) (inr other) = files_agree refusal refusal' one other

  known_unready : (refusal : SetupRefusal) (ready : ReadyDirectory) → IsRefusedSetup (Some files) name refusal → IsReady (Some files) name ready → ⊥
  known_unready refusal ready (inl one) (config, is, made) = refused_unread files name refusal config one is
  known_unready refusal ready (inr (config, is, (first, begins, refused))) (config', is', made) =
      let same = same_value files name config config' is is' in
      refused_unfilled files (port_state first) (port_state made.first) (same_first config config' first made.first same begins made.begins)
      config'.ldif refusal (port_state ready.provider)
      (subst (λ (ldif : Option (List ℕ)). IsRefusedFile (Some files) ldif (port_state first) refusal) (ap (λ (c : ConfigValue). c.ldif) same) refused) made.filled

-- where the shelf reports its files, there is one refusal at most
pub one_refusal : (files : Option Files) (name : List ℕ) (refusal refusal' : SetupRefusal) → IsSome files
    → IsRefusedSetup files name refusal → IsRefusedSetup files name refusal' → refusal ≡ refusal'
one_refusal None name refusal refusal' known one other = absurd (false≢true known)
one_refusal (Some files) name refusal refusal' known one other = known_refusal files name refusal refusal' one other

-- and what is refused is no directory
pub refused_unready : (files : Option Files) (name : List ℕ) (refusal : SetupRefusal) (ready : ReadyDirectory) → IsSome files
    → IsRefusedSetup files name refusal → IsReady files name ready → ⊥
refused_unready None name refusal ready known refused is = false≢true known
refused_unready (Some files) name refusal ready known refused is = known_unready files name refusal ready refused is
