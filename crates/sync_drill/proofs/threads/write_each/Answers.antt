use Rattle.sync_drill.specs.Writers.{MayWrite, WriterGoes}
use Rattle.std.proofs.Common.{◌≡◌, length, vec_len, sym, ◌∙◌}
use Rattle.std.proofs.lemmas.Result.{IfOk-weaker}
use Rattle.sync_drill.proofs.Jobs.{accepts, jobs_done}
use Rattle.sync_drill.proofs.threads.write_each.Goals as goal

pub map_vec-ended-requires-after_bounds : goal.map_vec-ended-requires-after_bounds
map_vec-ended-requires-after_bounds g c κs within = accepts MayWrite c.args.writings.items c.requires

pub returns : goal.returns
returns g c =
    jobs_done (λ v. v.items) c.map_vec-ended.result c.args.writings.items (WriterGoes g.P.Port.home g.P.Port.state) _
    (IfOk-weaker c.map_vec-ended.result (λ v. vec_len v ≡ vec_len c.args.writings) (λ v. length v.items ≡ length c.args.writings.items)
    (λ v same. sym v.ok.0 ∙ same ∙ c.args.writings.ok.0) c.map_vec-ended.ensures.len)
    c.map_vec-ended.ensures.each
    (λ v i d low each. let one = (each i d low).1 in record { job = one.job; job_is = one.job_is; call = one.call.met })
