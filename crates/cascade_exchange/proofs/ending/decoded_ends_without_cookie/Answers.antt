use Rattle.std.proofs.Common.{sym, ◌∙◌}
use Rattle.cascade_exchange.proofs.EndsWithoutCookie.{decoded_same_end, value_no_end, uuid_no_end}
use Rattle.cascade_exchange.proofs.ending.decoded_ends_without_cookie.Goals as goal

pub returns-in-Ok : goal.returns-in-Ok
returns-in-Ok c = c.is_end_without_cookie-no_cookie.ensures ∙ sym (decoded_same_end c.args.message.now _ c.in-Ok.ensures)

pub returns-in-Err-BadValue : goal.returns-in-Err-BadValue
returns-in-Err-BadValue c = sym (value_no_end c.args.message.now c.in-Err-BadValue.field-0 c.in-Err-BadValue.field-0-is c.in-Err-BadValue.ensures)

pub returns-in-Err-UuidDiffers : goal.returns-in-Err-UuidDiffers
returns-in-Err-UuidDiffers c = sym (uuid_no_end c.args.message.now c.in-Err-UuidDiffers.field-0 _ _ c.in-Err-UuidDiffers.field-0-is c.in-Err-UuidDiffers.ensures)
