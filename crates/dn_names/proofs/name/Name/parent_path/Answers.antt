-- So many octets at the start of the path are that of the parent.
use Rattle.std.proofs.Common.{ℕ, length, take, ap, ◌∙◌, arith}
use Rattle.dn_names.specs.Names.{parent_of}
use Rattle.dn_names.specs.Paths.{path_key}
use Rattle.dn_names.proofs.PathKeys.{parent-within, parent-begins}
use Rattle.dn_names.proofs.name.Name.parent_path.Goals as goal

pub split_at-requires : goal.split_at-requires
split_at-requires c =
    let rdns = c.self.inside.rdns.items in
    omega (arith, parent-within rdns, ap (length {A = ℕ}) c.as_slice.ensures.value, ap (length {A = ℕ}) c.self.invariant.path.is, c.self.invariant.parent)

pub returns : goal.returns
returns c =
    let rdns = c.self.inside.rdns.items in
    c.split_at.ensures.front
    ∙ ap (take c.self.inside.above) (c.as_slice.ensures.value ∙ c.self.invariant.path.is)
    ∙ ap (λ count. take count (path_key rdns)) c.self.invariant.parent
    ∙ parent-begins rdns
    ∙ ap (λ name. path_key (parent_of name)) c.self.view_is
