-- Cookies that a script gives to a consumer.
use Rattle.std.specs.Prelude.{ℕ, Bool, false, not, ◌&&◌, ◌==◌, nat_le, option_and_then, Option, Some, None, List}
use Rattle.csn_cookie.specs.Cookie.{cookie_of_text}
use Rattle.csn_cookie.specs.Csn.{is_before}
use Rattle.csn_cookie.specs.declared.cookie.Cookie.{Cookie}

-- the most nodes of a script, of which each has the history of its number
abbrev pub most_nodes : ℕ
most_nodes = 16

-- of the history of a node
abbrev pub is_of_node : Cookie → Bool
is_of_node cookie = nat_le 1 cookie.history && nat_le cookie.history most_nodes

-- what is held is a cookie of the given one's history, and its CSN is not less
abbrev pub is_not_before : Cookie → Option Cookie → Bool
is_not_before given None = false
is_not_before given (Some held) =
    held.history == given.history && not (is_before held.csn given.csn)

abbrev pub goes_beyond : Option Cookie → Option Cookie → Bool
goes_beyond held None = false
goes_beyond held (Some given) = is_of_node given && not (is_not_before given held)

-- the cookie of a text, where one is held and the text spells one
abbrev pub held_cookie : Option (List ℕ) → Option Cookie
held_cookie held = option_and_then cookie_of_text held

-- the text that is given spells a cookie of a node's history which is later than what is held
abbrev pub is_later : Option (List ℕ) → List ℕ → Bool
is_later held given = goes_beyond (held_cookie held) (cookie_of_text given)
