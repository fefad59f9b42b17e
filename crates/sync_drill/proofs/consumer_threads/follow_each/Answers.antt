-- Consumers may go to threads, and come from there.
use denote.Exit.{no}
use denote.Param.{param}
use denote.Param.Send.{Quiet-if, arg_send, param_send}
use mir.Syntax.{of_param}
use Rattle.std.proofs.Common.{◌≡◌, length, vec_len, sym, ◌∙◌}
use Rattle.std.proofs.lemmas.Result.{IfOk-weaker}
use Rattle.sync_drill.specs.Following.{FollowingGoes, MayFollow}
use Rattle.sync_drill.proofs.Jobs.{accepts_beside, jobs_done}
use Rattle.sync_drill.proofs.Sent.{following_send}
use Rattle.sync_drill.proofs.consumer_threads.follow_each.Goals as goal

pub map_vec-requires-send-J : goal.map_vec-requires-send-J
map_vec-requires-send-J g c κs within =
    param_send 1 _ (arg_send _ no _ (following_send (param 1 g.row.P) c.type_bounds.send-P))

pub map_vec-requires-send-X : goal.map_vec-requires-send-X
map_vec-requires-send-X g c κs within =
    param_send 2 _ (arg_send _ no _ (following_send (param 1 g.row.P) c.type_bounds.send-P))

pub map_vec-requires-after_bounds : goal.map_vec-requires-after_bounds
map_vec-requires-after_bounds g c κs within =
    accepts_beside (MayFollow g.P.Port.state) _ c.args.followings.items c.requires (
      record { owned = c.type_bounds.send-P.owned; leaving = λ k. Quiet-if (k (of_param 1)) _ _ (λ x w. tt) (λ x w. tt) },
      record { shared = c.type_bounds.sync-R.shared },
    )

pub returns : goal.returns
returns g c =
    jobs_done (λ v. v.items) c.map_vec.result c.args.followings.items (FollowingGoes g.P.Port.home g.P.Port.state) _
    (IfOk-weaker c.map_vec.result (λ v. vec_len v ≡ vec_len c.args.followings) (λ v. length v.items ≡ length c.args.followings.items)
    (λ v same. sym v.ok.0 ∙ same ∙ c.args.followings.ok.0) c.map_vec.ensures.len)
    c.map_vec.ensures.each
    (λ v i d low each. let one = (each i d low).1 in record { job = one.job; job_is = one.job_is; call = one.call.met })
