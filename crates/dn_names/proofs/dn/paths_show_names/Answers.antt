-- What a path begins with reports the names above.
use Rattle.dn_names.proofs.PathKeys.{starts_is_below, equal_is_same, parent_is}
use Rattle.dn_names.proofs.dn.paths_show_names.Goals as goal

pub returns : goal.returns
returns c one other sound_one sound_other = record {
  below = starts_is_below one other sound_one sound_other;
  same = equal_is_same one other sound_one sound_other;
  child = parent_is one other sound_one sound_other;
}
