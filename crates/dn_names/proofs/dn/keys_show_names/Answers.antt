-- A key reports the sets of pairs, and these report the name.
use Rattle.dn_names.proofs.Equality.{sets-from_same_name, same_name-from_sets}
use Rattle.dn_names.proofs.KeyTexts.{name_key-apart, name_key-from_sets}
use Rattle.dn_names.proofs.dn.keys_show_names.Goals as goal

pub returns : goal.returns
returns c one other sound_one sound_other =
    (λ keys. same_name-from_sets one other sound_one sound_other (name_key-apart one other keys), λ same. name_key-from_sets one other (sets-from_same_name one other same))
