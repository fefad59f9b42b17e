-- An accepted write leaves entries that can be sent.
use Rattle.std.proofs.Common.{◌≡◌, ◌≤◌, ◌<◌, ◌^◌, ℕ, Bool, true, not, cond, nat_lt, List, [], ◌∷◌, Option, Some, None}
use Rattle.std.specs.Prelude.{IfSome}
use Rattle.std.specs.List.{All, filter, find, list_all}
use Rattle.std.proofs.lemmas.Bool.{cond_both}
use Rattle.std.proofs.lemmas.List.Elements.{All-cons, All-append, All-filter, All-head, All-tail, All-map, All-weaker}
use Rattle.schema_rules.proofs.Given.{given-sound}
use Rattle.schema_rules.specs.Attributes.{weight_of}
use Rattle.csn_cookie.specs.Csn.{CsnValue, IsCsn}
use Rattle.dn_names.specs.Names.{TypeAndValue}
use Rattle.entry_tree.specs.declared.edit.Edit.{Edit}
use Rattle.entry_tree.specs.declared.entry.Entry.{Entry}
use Rattle.entry_tree.specs.declared.op.Op.{Op}
use Rattle.entry_tree.specs.declared.op.Op.TheVariants.{Add, Delete, Modify, Rename, Commit}
use Rattle.entry_tree.specs.declared.op.Write.{Write}
use Rattle.entry_tree.specs.Codes.{code_of, modify_code}
use Rattle.entry_tree.specs.Effects.{edited, modified, effect}
use Rattle.entry_tree.specs.Sound.{is_sound_edit, is_sound_op}
use Rattle.entry_tree.specs.State.{put, is_identified, is_named, entry_named}
use Rattle.entry_tree.proofs.AttributeLists.{IsAttributeList-after_edits}
use Rattle.directory_writes.specs.Formed.{IsWellFormed}
use Rattle.directory_laws.specs.Accepted.{IsAcceptedFromClient}
use Rattle.sync_wire.specs.CanBeSent.{CanBeSent}
use Rattle.directory_laws.proofs.Codes.{light-added, light-edited}
use Rattle.directory_laws.proofs.Given.{given-after_edits}
use Rattle.directory_laws.proofs.Renaming.{sent-renamed}

-- what is found among entries that can be sent can be sent
sent-found : (test : Entry → Bool) (entries : List Entry) → All CanBeSent entries → IfSome (find test entries) CanBeSent
sent-found test [] sound = tt
sent-found test (e ∷ entries) sound =
    cond_both (test e) (Some e) (find test entries) (λ found. IfSome found CanBeSent)
    (λ _. All-head CanBeSent e entries sound) (λ _. sent-found test entries (All-tail CanBeSent e entries sound))

-- ---- Add

sent-put : (e : Entry) (entries : List Entry) → CanBeSent e → All CanBeSent entries → All CanBeSent (put e entries)
sent-put e entries here sound =
    let lower : List Entry = filter (λ other. nat_lt other.uuid e.uuid) entries in
    let higher : List Entry = filter (λ other. nat_lt e.uuid other.uuid) entries in
    All-append CanBeSent lower (e ∷ higher) (All-filter (λ (other : Entry). nat_lt other.uuid e.uuid) CanBeSent entries sound)
    (All-cons CanBeSent e higher here (All-filter (λ (other : Entry). nat_lt e.uuid other.uuid) CanBeSent entries sound))

-- ---- Modify

CanBeSent-edited : (e : Entry) (edits : List Edit) (csn : CsnValue) → CanBeSent e → list_all is_sound_edit edits ≡ true → IsCsn csn
    → weight_of (edited e edits csn).attrs ≤ 65536 → CanBeSent (edited e edits csn)
CanBeSent-edited e edits csn sound asked is_csn light = record {
  name = sound.name;
  listed = IsAttributeList-after_edits e.attrs edits asked sound.listed;
  given = given-after_edits e.attrs edits asked sound.given;
  light = light;
  is_csn = is_csn;
  identity = sound.identity;
}

sent-modified : (entries : List Entry) (found : Option Entry) (edits : List Edit) (csn : CsnValue) → All CanBeSent entries → IfSome found CanBeSent
    → list_all is_sound_edit edits ≡ true → IsCsn csn → modify_code entries found edits ≡ None → All CanBeSent (modified entries found edits csn)
sent-modified entries None edits csn sound here asked is_csn none = sound
sent-modified entries (Some e) edits csn sound here asked is_csn none =
    All-map CanBeSent (λ (other : Entry). cond (is_identified e.uuid other) (edited e edits csn) other) entries
    (All-weaker CanBeSent (λ (other : Entry). CanBeSent (cond (is_identified e.uuid other) (edited e edits csn) other))
    (λ other held. cond_both (is_identified e.uuid other) (edited e edits csn) other CanBeSent
    (λ _. CanBeSent-edited e edits csn here asked is_csn (light-edited entries e edits none)) (λ _. held)) entries sound)

-- ---- each kind of write

sent-op : (op : Op) (suffix : List (List TypeAndValue)) (entries : List Entry) (uuid : ℕ) (csn : CsnValue) → All CanBeSent entries → IsWellFormed op → is_sound_op op ≡ true
    → IsCsn csn → code_of suffix entries op ≡ None → uuid < 2 ^ 128 → All CanBeSent (effect entries op uuid csn)
sent-op (Add name attrs) suffix entries uuid csn sound formed asked is_csn none below =
    sent-put (record { uuid = uuid; csn = csn; dn = name; attrs = attrs }) entries
    (record {
      name = formed.0;
      listed = formed.1;
      given = given-sound attrs asked;
      light = light-added suffix entries name attrs none;
      is_csn = is_csn;
      identity = below;
    }) sound
sent-op (Delete name) suffix entries uuid csn sound formed asked is_csn none below = All-filter (λ e. not (is_named name e)) CanBeSent entries sound
sent-op (Modify name edits) suffix entries uuid csn sound formed asked is_csn none below =
    sent-modified entries (entry_named entries name) edits csn sound (sent-found (is_named name) entries sound) asked is_csn none
sent-op (Rename name rdn deletes superior) suffix entries uuid csn sound formed asked is_csn none below =
    sent-renamed suffix entries (entry_named entries name) rdn deletes superior csn sound (sent-found (is_named name) entries sound) formed.0 formed.1 is_csn none
sent-op (Commit puts drops) suffix entries uuid csn sound formed asked is_csn none below = absurd formed

-- entries can be sent after an accepted write
pub sent-effect : (suffix : List (List TypeAndValue)) (entries : List Entry) (write : Write) (uuid : ℕ) → All CanBeSent entries → IsAcceptedFromClient suffix entries write
    → uuid < 2 ^ 128 → All CanBeSent (effect entries write.op uuid write.csn)
sent-effect suffix entries write uuid sound accepted below =
    sent-op write.op suffix entries uuid write.csn sound accepted.formed accepted.sound accepted.is_csn accepted.free below
