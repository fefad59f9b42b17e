-- What a configuration is read as, or which of its keys is refused first.
use Rattle.std.specs.Prelude.{◌≡◌, ℕ, ⊤, not, List, Option, Some, None, Result, Ok, Err, IsUtf8, codes, option_map}
use Rattle.toml.specs.Data.{Data, Members, table}
use Rattle.toml.specs.Parse.{parse_document}
use Rattle.sync_config.specs.declared.config.Config.{Config}
use Rattle.sync_config.specs.declared.fault.ConfigFault.{ConfigFault}
use Rattle.sync_config.specs.declared.fault.ConfigFault.TheVariants.{NotToml, MissingKey, BadValue, NoMemory}
use Rattle.sync_config.specs.Keys.{Name, has, text_at, required, name_at, number_at, needed, forbidden, with_found}
use Rattle.sync_config.specs.Upstreams.{FollowedValue, UpstreamValue, upstream_of, upstream_value}

-- the address at which the directory is served
abbrev pub listen_of : Data → Result (List ℕ) ConfigFault
listen_of document = required (codes "listen") (text_at (codes "listen") document)

-- its suffix, which is needed where the directory follows no other one
abbrev pub suffix_of : Data → Result (Option Name) ConfigFault
suffix_of document =
    needed (codes "suffix") (not (has (codes "upstream") document)) document
    (name_at (codes "suffix") document)

-- the server id of its CSNs
abbrev pub sid_of : Data → Result ℕ ConfigFault
sid_of document = number_at (codes "sid") 0 4095 0 document

-- the file of its first entries, which a directory that follows another one may not have
abbrev pub ldif_of : Data → Result (Option (List ℕ)) ConfigFault
ldif_of document =
    forbidden (codes "ldif") (has (codes "upstream") document) document
    (text_at (codes "ldif") document)

-- how many touches of entries its session log keeps, and how many messages of a search may be
-- pending
abbrev pub log_limit_of : Data → Result ℕ ConfigFault
log_limit_of document = number_at (codes "log_limit") 0 1000000 1000 document

abbrev pub queue_limit_of : Data → Result ℕ ConfigFault
queue_limit_of document = number_at (codes "queue_limit") 0 1000000 4096 document

-- the name that may write, and its password: both or none
abbrev pub bind_name_of : Data → Result (Option Name) ConfigFault
bind_name_of document =
    needed (codes "bind_name") (has (codes "bind_password") document) document
    (name_at (codes "bind_name") document)

abbrev pub bind_password_of : Data → Result (Option (List ℕ)) ConfigFault
bind_password_of document =
    needed (codes "bind_password") (has (codes "bind_name") document) document
    (text_at (codes "bind_password") document)

-- how many clients are served at once, and how many in all, 0 without end
abbrev pub seats_of : Data → Result ℕ ConfigFault
seats_of document = number_at (codes "seats") 1 64 16 document

abbrev pub connections_of : Data → Result ℕ ConfigFault
connections_of document = number_at (codes "connections") 0 1000000 0 document

-- a configuration, with the filter of its upstream seen as a tree, and how many connections to it
-- are tried, which is 0 without one
pub record ConfigValue : Type 0 where
  pub listen : List ℕ
  pub suffix : Option Name
  pub sid : ℕ
  pub ldif : Option (List ℕ)
  pub log_limit : ℕ
  pub queue_limit : ℕ
  pub bind_name : Option Name
  pub bind_password : Option (List ℕ)
  pub seats : ℕ
  pub connections : ℕ
  pub upstream : Option UpstreamValue
  pub rounds : ℕ

abbrev pub config_value : Config → ConfigValue
config_value config = record {
  listen = config.listen;
  suffix = config.suffix;
  sid = config.sid;
  ldif = config.ldif;
  log_limit = config.log_limit;
  queue_limit = config.queue_limit;
  bind_name = config.bind_name;
  bind_password = config.bind_password;
  seats = config.seats;
  connections = config.connections;
  upstream = option_map upstream_value config.upstream;
  rounds = config.rounds;
}

-- how many connections to an upstream are tried
abbrev pub rounds_in : Option FollowedValue → ℕ
rounds_in None = 0
rounds_in (Some followed) = followed.rounds

-- the keys, in the order in which they are judged
abbrev pub config_of : Data → Result ConfigValue ConfigFault
config_of document =
    with_found (listen_of document) (λ listen.
    with_found (suffix_of document) (λ suffix.
    with_found (sid_of document) (λ sid.
    with_found (ldif_of document) (λ ldif.
    with_found (log_limit_of document) (λ log_limit.
    with_found (queue_limit_of document) (λ queue_limit.
    with_found (bind_name_of document) (λ bind_name.
    with_found (bind_password_of document) (λ bind_password.
    with_found (seats_of document) (λ seats.
    with_found (connections_of document) (λ connections.
    with_found (upstream_of document) (λ followed.
    Ok (record {
      listen = listen;
      suffix = suffix;
      sid = sid;
      ldif = ldif;
      log_limit = log_limit;
      queue_limit = queue_limit;
      bind_name = bind_name;
      bind_password = bind_password;
      seats = seats;
      connections = connections;
      upstream = option_map (λ (f : FollowedValue). f.upstream) followed;
      rounds = rounds_in followed;
    }))))))))))))

-- the bytes are a document of TOML with these members
pub record IsDocument (text : List ℕ) (members : Members) : Type 0 where
  pub encoded : IsUtf8 text
  pub parsed : parse_document text ≡ Some members

-- an answer, with its configuration seen as a value
abbrev pub answered : Result Config ConfigFault → Result ConfigValue ConfigFault
answered (Ok config) = Ok (config_value config)
answered (Err fault) = Err fault

-- the bytes are a document, which gives this configuration, or the fault of its first key that is
-- refused
abbrev pub IsReadAs : List ℕ → Result Config ConfigFault → Type 0
IsReadAs text answer =
    (members : Members) × IsDocument text members × (config_of (table members) ≡ answered answer)

-- when a text is refused with this fault; out of memory reports nothing
abbrev pub Refuses : List ℕ → ConfigFault → Type 0
Refuses text NotToml = IsUtf8 text → parse_document text ≡ None
Refuses text (MissingKey key) = IsReadAs text (Err (MissingKey key))
Refuses text (BadValue key) = IsReadAs text (Err (BadValue key))
Refuses text NoMemory = ⊤
