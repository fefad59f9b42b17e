-- The path of the other suffix, and then what follows that of the first.
use Rattle.std.proofs.Common.{◌≡◌, ◌++◌, ◌∙◌, ℕ, length, drop, ap, ap₂, arith}
use Rattle.dn_names.specs.Paths.{path_key}
use Rattle.dn_names.specs.Names.{parent_of}
use Rattle.dn_names.proofs.PathKeys.{parent-within}
use Rattle.dn_names.proofs.Moved.{moved_in_parts, own_within, path_moved, suffix_within}
use Rattle.dn_names.proofs.dn.Dn.moved_path.Goals as goal

pub overflow_sub-own : goal.overflow_sub-own
overflow_sub-own c =
    omega (arith, parent-within c.args.self.now, ap (length {A = ℕ}) c.path-whole.ensures.value, ap (length {A = ℕ}) c.parent_path-parent.ensures.value)

pub split_at-requires : goal.split_at-requires
split_at-requires c =
    omega (arith, suffix_within c.args.self.now c.args.from.now c.requires.below, ap (length {A = ℕ}) c.path-whole.ensures.value, ap (length {A = ℕ}) c.path-suffix.ensures.value)

pub overflow_sub-above : goal.overflow_sub-above
overflow_sub-above c =
    let name = c.args.self.now in
    let from = c.args.from.now in
    let to = c.args.to.now in
    let path = c.in_ok-path.path in
    let suffix = ap (length {A = ℕ}) c.path-suffix.ensures.value in
    let is : path.items ≡ path_key to ++ drop (length (path_key from)) (path_key name) =
    c.in_ok-path.ensures ∙ ap₂ (λ front back. front ++ back) c.path.ensures.value
    (c.split_at.ensures.back ∙ ap₂ (λ n text. drop n text) suffix c.path-whole.ensures.value) in
    let size = ap (length {A = ℕ}) (path_moved name from to path.items c.path-whole.ensures.sound c.path.ensures.sound c.requires.below is).is in
    omega (arith, own_within name from to c.requires.longer, size, c.len.ensures, path.ok.0, ap (length {A = ℕ}) c.path-whole.ensures.value, ap (length {A = ℕ}) c.parent_path-parent.ensures.value)

pub returns : goal.returns
returns c =
    let name = c.args.self.now in
    let from = c.args.from.now in
    let to = c.args.to.now in
    let path = c.in_ok-path.path in
    let suffix = ap (length {A = ℕ}) c.path-suffix.ensures.value in
    let is : path.items ≡ path_key to ++ drop (length (path_key from)) (path_key name) =
    c.in_ok-path.ensures ∙ ap₂ (λ front back. front ++ back) c.path.ensures.value
    (c.split_at.ensures.back ∙ ap₂ (λ n text. drop n text) suffix c.path-whole.ensures.value) in
    let size = ap (length {A = ℕ}) (path_moved name from to path.items c.path-whole.ensures.sound c.path.ensures.sound c.requires.below is).is in
    let own = own_within name from to c.requires.longer in
    moved_in_parts name from to path.items _ c.path-whole.ensures.sound c.path.ensures.sound c.requires.below c.requires.longer is
    (omega (arith, own, size, parent-within name, c.len.ensures, path.ok.0, ap (length {A = ℕ}) c.path-whole.ensures.value, ap (length {A = ℕ}) c.parent_path-parent.ensures.value))
