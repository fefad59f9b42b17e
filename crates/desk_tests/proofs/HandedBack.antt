-- What a thread hands back beside its pass may come from there: what it noted, unless it gave up.
-- This may have a consumer, of which it is shown from its fields.
use denote.RattleType.{RattleType}
use denote.Param.Send.{IsSend, sendable}
use Rattle.std.specs.contracts.option.Option as Option
use Rattle.std.proofs.Crossing.{Vec-send}
use Rattle.std.proofs.option.Option.TheSendSync as option
use Rattle.sync_consumer.proofs.Sent.{consumer_send}
use Rattle.desk_tests.specs.contracts.tasks.FollowedSearch as FollowedSearch
use Rattle.desk_tests.specs.contracts.tasks.Noted as Noted
use Rattle.desk_tests.proofs.tasks.Tried.TheSendSync as tries

-- ---- what is noted

followed_search_send : IsSend FollowedSearch.the_row
followed_search_send = search (consumer_send, sendable) depth 20

search_field_send : IsSend (Option.the_field FollowedSearch.the_row).row
search_field_send = option.the_field_send FollowedSearch.the_row followed_search_send

noted_row_send : IsSend Noted.the_row
noted_row_send = search (search_field_send, tries.the_send, Vec-send, sendable) depth 20

abbrev pub noted : RattleType
noted = Option.the_row Noted.the_row

-- what a thread noted may come from there
pub noted_send : IsSend noted
noted_send = option.the_send Noted.the_row noted_row_send
