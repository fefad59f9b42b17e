-- What an entry has that is read again as it was sent.
use Rattle.std.specs.Prelude.{◌≡◌, ◌<◌, ◌≤◌, ◌^◌, true}
use Rattle.std.specs.List.{list_all}
use Rattle.csn_cookie.specs.Csn.{IsCsn}
use Rattle.schema_rules.specs.Attributes.{IsAttributeList, is_given, weight_of}
use Rattle.dn_names.specs.Sound.{IsName}
use Rattle.entry_tree.specs.declared.entry.Entry.{Entry}
use Rattle.entry_tree.specs.State.{most_entry_weight}

-- the identity has sixteen octets, and the CSN and the name are proper ones; each type has its
-- values once and at least one, and is one that a client may give, with values of its syntax; and
-- the entry is not too heavy
pub record CanBeSent (e : Entry) : Type 0 where
  pub identity : e.uuid < 2 ^ 128
  pub is_csn : IsCsn e.csn
  pub name : IsName e.dn
  pub listed : IsAttributeList e.attrs
  pub given : list_all is_given e.attrs ≡ true
  pub light : weight_of e.attrs ≤ most_entry_weight
