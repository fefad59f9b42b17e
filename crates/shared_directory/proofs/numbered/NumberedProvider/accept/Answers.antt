-- What a search that is asked for leaves of the numbers.
use Rattle.std.proofs.Common.{◌<◌, refl, arith}
use Rattle.sync_provider.specs.Ports.{AcceptReplies}
use Rattle.sync_provider.specs.declared.searches.Accepted.TheVariants as accepted
use Rattle.shared_directory.specs.Desks.{NumberedState}
use Rattle.shared_directory.proofs.Answered.{accept_unmade}
use Rattle.shared_directory.proofs.Seen.{unmade_seen, opened_seen, opened_below, unopened_seen}
use Rattle.shared_directory.proofs.numbered.NumberedProvider.accept.Goals as goal

pub invariant_of-self : goal.invariant_of-self
invariant_of-self c =
    let d : NumberedState = record { provider = c.self.inside.provider; first = c.self.inside.first; numbers = c.self.inside.numbers.items; openers = c.self.inside.openers } in
    (unmade_seen c.args.number d c.args.self.now c.self.view_is c.self.invariant
    (λ p q. AcceptReplies p c.args.ask accepted.NoMemory q) c.reserve.new.self.items c.reserve.ensures.items
    (accept_unmade c.args.number d c.args.ask)).numbered

pub returns-in_default : goal.returns-in_default
returns-in_default c =
    let d : NumberedState = record { provider = c.self.inside.provider; first = c.self.inside.first; numbers = c.self.inside.numbers.items; openers = c.self.inside.openers } in
    (unmade_seen c.args.number d c.args.self.now c.self.view_is c.self.invariant
    (λ p q. AcceptReplies p c.args.ask accepted.NoMemory q) c.reserve.new.self.items c.reserve.ensures.items
    (accept_unmade c.args.number d c.args.ask)).answered

pub bounds-self-inside-search : goal.bounds-self-inside-search
bounds-self-inside-search c =
    opened_below c.args.number _ c.args.self.now c.self.view_is c.self.invariant c.accept.new.self c.args.ask c.in-Opened.search c.in-Opened.writes c.in-Opened.ensures.journal

pub offset_bounds-self-inside-search : goal.offset_bounds-self-inside-search
offset_bounds-self-inside-search c =
    let low : c.in-Opened.search < 65 =
    opened_below c.args.number _ c.args.self.now c.self.view_is c.self.invariant c.accept.new.self c.args.ask c.in-Opened.search c.in-Opened.writes c.in-Opened.ensures.journal in
    record { fits = omega (arith, low) }

pub invariant_of-self-in-Opened : goal.invariant_of-self-in-Opened
invariant_of-self-in-Opened c =
    (opened_seen c.args.number _ c.args.self.now c.self.view_is c.self.invariant c.accept.new.self c.reserve.new.self.items c.push_reserved.new.self.items
    c.reserve.ensures.items c.push_reserved.ensures.items c.args.ask c.in-Opened.search c.in-Opened.writes c.in-Opened.ensures.journal).numbered

pub returns-in-Opened : goal.returns-in-Opened
returns-in-Opened c =
    (opened_seen c.args.number _ c.args.self.now c.self.view_is c.self.invariant c.accept.new.self c.reserve.new.self.items c.push_reserved.new.self.items
    c.reserve.ensures.items c.push_reserved.ensures.items c.args.ask c.in-Opened.search c.in-Opened.writes c.in-Opened.ensures.journal).answered

pub invariant_of-self-in-Refused : goal.invariant_of-self-in-Refused
invariant_of-self-in-Refused c =
    (unopened_seen c.args.number _ c.args.self.now c.self.view_is c.self.invariant c.accept.new.self c.reserve.new.self.items c.reserve.ensures.items
    c.args.ask (accepted.Refused c.in-Refused.code) refl c.in-Refused.ensures.journal).numbered

pub returns-in-Refused : goal.returns-in-Refused
returns-in-Refused c =
    (unopened_seen c.args.number _ c.args.self.now c.self.view_is c.self.invariant c.accept.new.self c.reserve.new.self.items c.reserve.ensures.items
    c.args.ask (accepted.Refused c.in-Refused.code) refl c.in-Refused.ensures.journal).answered

pub invariant_of-self-in-NoMemory : goal.invariant_of-self-in-NoMemory
invariant_of-self-in-NoMemory c =
    (unopened_seen c.args.number _ c.args.self.now c.self.view_is c.self.invariant c.accept.new.self c.reserve.new.self.items c.reserve.ensures.items
    c.args.ask accepted.NoMemory refl c.in-NoMemory.ensures.journal).numbered

pub returns-in-NoMemory : goal.returns-in-NoMemory
returns-in-NoMemory c =
    (unopened_seen c.args.number _ c.args.self.now c.self.view_is c.self.invariant c.accept.new.self c.reserve.new.self.items c.reserve.ensures.items
    c.args.ask accepted.NoMemory refl c.in-NoMemory.ensures.journal).answered
