-- Identities of sixteen octets: they give their number back, are read exactly, and one after the other.
use Rattle.std.proofs.Common.{◌≡◌, ℕ, ◌+◌, ◌*◌, ◌/◌, ◌%◌, ◌^◌, ◌<◌, eqb, List, [], ◌∷◌, ◌++◌, length, Ok, Err, refl, sym, arith, eq-eqb}
use Rattle.std.specs.Int.{w128, to_be_bytes, from_be_bytes}
use Rattle.std.proofs.lemmas.Bool.{eqb-true}
use native.Mathlib.Nat as nat
use Rattle.ldap_ber.specs.Form.{OctetString}
use Rattle.ldap_ber.specs.Reading.{octets_at, many_at}
use Rattle.ldap_ber.specs.Canonical.{element}
use Rattle.ldap_ber.proofs.Steps.{guard_on, ok_is}
use Rattle.ldap_ber.proofs.SkipLemmas.{Begins-shorter}
use Rattle.ldap_ber.proofs.ExactLemmas.{Exact, Shortens, reworded_exact, octets_exact, meaning_exact, advances}
use Rattle.ldap_ber.proofs.ManyLemmas.{Advances, with_prefix, many_goes_on, many_fails, many_ended}
use Rattle.ldap_ber.proofs.CanonicalLemmas.{Spelled, Anything, Always, octets_spelled, meaning_spelled}
use Rattle.sync_messages.specs.declared.fault.SyncFault.{SyncFault}
use Rattle.sync_messages.specs.declared.fault.SyncFault.TheVariants.{Ber, BadUuidLength}
use Rattle.sync_messages.specs.Parts.{IsUuid, UuidForm, octet_string_at, uuid_of, uuid_at, uuid_octets}

byte_and_rest : (n p : ℕ) → n / p ≡ n / p % 256 + n / (p * 256) * 256
byte_and_rest n p = omega (arith, nat.div-div-eq-div-mul n p 256)

joined_16 : (d0 d1 d2 d3 d4 d5 d6 d7 d8 d9 d10 d11 d12 d13 d14 d15 n p1 p2 p3 p4 p5 p6 p7 p8 p9 p10 p11 p12 p13 p14 p15 : ℕ) → n ≡ d0 + p1 * 256 → p1 ≡ d1 + p2 * 256 → p2 ≡ d2 + p3 * 256 → p3 ≡ d3 + p4 * 256 → p4 ≡ d4 + p5 * 256 → p5 ≡ d5 + p6 * 256 → p6 ≡ d6 + p7 * 256 → p7 ≡ d7 + p8 * 256 → p8 ≡ d8 + p9 * 256 → p9 ≡ d9 + p10 * 256 → p10 ≡ d10 + p11 * 256 → p11 ≡ d11 + p12 * 256 → p12 ≡ d12 + p13 * 256 → p13 ≡ d13 + p14 * 256 → p14 ≡ d14 + p15 * 256 → p15 ≡ d15 → d15 * 1329227995784915872903807060280344576 + d14 * 5192296858534827628530496329220096 + d13 * 20282409603651670423947251286016 + d12 * 79228162514264337593543950336 + d11 * 309485009821345068724781056 + d10 * 1208925819614629174706176 + d9 * 4722366482869645213696 + d8 * 18446744073709551616 + d7 * 72057594037927936 + d6 * 281474976710656 + d5 * 1099511627776 + d4 * 4294967296 + d3 * 16777216 + d2 * 65536 + d1 * 256 + d0 ≡ n
joined_16 d0 d1 d2 d3 d4 d5 d6 d7 d8 d9 d10 d11 d12 d13 d14 d15 n p1 p2 p3 p4 p5 p6 p7 p8 p9 p10 p11 p12 p13 p14 p15 a0 a1 a2 a3 a4 a5 a6 a7 a8 a9 a10 a11 a12 a13 a14 a15 = omega arith

-- sixteen octets of a number are read as the number
pub from_be_bytes-to_be_bytes_16 : (n : ℕ) → n < 2 ^ 128 → from_be_bytes w128 (to_be_bytes w128 n) ≡ n
from_be_bytes-to_be_bytes_16 n fits =
    let low : n ≡ n % 256 + n / 256 * 256 = omega arith in
    let high : n / 1329227995784915872903807060280344576 ≡ n / 1329227995784915872903807060280344576 % 256 = omega arith in
    joined_16 _ _ _ _ _ _ _ _ _ _ _ _ _ _ _ _ n _ _ _ _ _ _ _ _ _ _ _ _ _ _ _ low (byte_and_rest n 256) (byte_and_rest n 65536) (byte_and_rest n 16777216) (byte_and_rest n 4294967296) (byte_and_rest n 1099511627776) (byte_and_rest n 281474976710656) (byte_and_rest n 72057594037927936) (byte_and_rest n 18446744073709551616) (byte_and_rest n 4722366482869645213696) (byte_and_rest n 1208925819614629174706176) (byte_and_rest n 309485009821345068724781056) (byte_and_rest n 79228162514264337593543950336) (byte_and_rest n 20282409603651670423947251286016) (byte_and_rest n 5192296858534827628530496329220096) high

-- ---- read

-- the reading of an octet string is exact
pub octet_string_exact : (tag : ℕ) → Exact (OctetString tag) (octet_string_at tag)
octet_string_exact tag = reworded_exact Ber (OctetString tag) (octets_at tag) (octets_exact tag)

uuid_there : (octets : List ℕ) (id : ℕ) → uuid_of octets ≡ Ok id → IsUuid octets id
uuid_there octets id h =
    let g = guard_on (eqb (length octets) 16) (BadUuidLength (length octets)) (Ok (from_be_bytes w128 octets)) id h in
    (eqb-true _ _ g.0, sym (ok_is (from_be_bytes w128 octets) id g.1))

uuid_back : (octets : List ℕ) (id : ℕ) → IsUuid octets id → uuid_of octets ≡ Ok id
uuid_back octets id h = rw (eq-eqb (length octets) 16 h.0, h.1) refl

-- so is that of an identity
pub uuid_exact : Exact UuidForm uuid_at
uuid_exact = meaning_exact IsUuid (λ at octets. uuid_of octets) (OctetString 4) _ (λ at. uuid_there) (λ at. uuid_back) (octet_string_exact 4)

-- an identity takes at least one byte
pub uuid_shortens : Shortens UuidForm
uuid_shortens bytes x rest h = Begins-shorter bytes 4 h.0 rest h.1

-- ---- read one after the other

uuid_advances : Advances uuid_at
uuid_advances = advances UuidForm uuid_at uuid_exact uuid_shortens

-- one that was read stands after those before it
pub uuids_go_on : (prefix : List ℕ) (stop : ℕ) (bytes : List ℕ) (x : ℕ) (rest : List ℕ) → 0 < length bytes → uuid_at stop bytes ≡ Ok (x, rest)
    → with_prefix (prefix ++ x ∷ []) (many_at uuid_at stop rest) ≡ with_prefix prefix (many_at uuid_at stop bytes)
uuids_go_on prefix stop bytes x rest some h = many_goes_on uuid_at uuid_advances prefix stop bytes x rest some h

-- where one is refused, all are
pub uuids_fail : (prefix : List ℕ) (stop : ℕ) (bytes : List ℕ) (e : SyncFault) → 0 < length bytes → uuid_at stop bytes ≡ Err e → with_prefix prefix (many_at uuid_at stop bytes) ≡ Err e
uuids_fail prefix stop bytes e some h = many_fails uuid_at uuid_advances prefix stop bytes e some h

-- where no byte is left, they are those that were read
pub uuids_end : (prefix : List ℕ) (stop : ℕ) (bytes : List ℕ) → length bytes ≡ 0 → with_prefix prefix (many_at uuid_at stop bytes) ≡ Ok prefix
uuids_end prefix stop bytes none = many_ended uuid_at prefix stop bytes none

-- ---- written

-- the canonical octets of an identity spell it
pub uuid_spelled : Spelled UuidForm uuid_octets (λ id. id < 2 ^ 128) Anything
uuid_spelled = meaning_spelled IsUuid (OctetString 4) (element 4) (Always {X = List ℕ}) Anything (to_be_bytes w128) (λ id. id < 2 ^ 128)
    (λ id small. ((refl, sym (from_be_bytes-to_be_bytes_16 id small)), tt)) (octets_spelled 4 (omega arith))
