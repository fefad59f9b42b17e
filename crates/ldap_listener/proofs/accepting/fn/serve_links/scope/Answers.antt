use Rattle.std.proofs.Common.{◌≡◌, ◌++◌, ◌∙◌, arith, drop, length, refl, subst, sym, take}
use Rattle.std.proofs.lemmas.List.{length-map}
use Rattle.std.proofs.Math.Seq.{take-append_seam}
use Rattle.ldap_listener.specs.SeatsOfCode.{seat_of}
use Rattle.ldap_listener.proofs.Accounts.{accepts-still}
use Rattle.ldap_listener.proofs.accepting.fn.serve_links.scope.Goals as goal

-- the seats were freed after the last link came
pub returns : goal.returns
returns g c =
    let seats = c.free_all.new.seats in
    let rest = drop (length seats) c.captures.seats.items in
    let size : length seats ≡ c.captures.seats.len = omega arith in
    let back : take c.captures.seats.len (seats ++ rest) ≡ seats = subst (λ n. take n (seats ++ rest) ≡ seats) size (take-append_seam seats rest) in
    let as_many : length seats ≡ length c.captures.seats.items = omega arith in
    record {
      same = refl;
      serves = record {
        count = rw back (length-map seats seat_of ∙ as_many ∙ sym (length-map c.captures.seats.items seat_of));
        free = rw back c.free_all.ensures.free;
        accepts = rw (back, ← c.as_mut_slice-places.ensures.value) (accepts-still _ _ _ _ _ _ _ _ _ _ _ _ _ _ c.accept_all-accepted.ensures c.free_all.ensures.keeps);
      };
    }
