-- What a write to a provider leaves, by how many writes it has then.
use Rattle.std.proofs.Common.{◌≡◌, ◌+◌, ◌<◌, ◌≤◌, ℕ, [], ◌∷◌, length, refl, arith, length-append}
use Rattle.std.specs.Prelude.{Result, Ok, Err}
use Rattle.ldap_constants.specs.declared.result_codes.TheConstants.{SUCCESS}
use Rattle.entry_tree.specs.declared.op.Op.{Op}
use Rattle.entry_tree.specs.declared.op.Write.{Write}
use Rattle.directory_writes.specs.Directory.{code_of_judged}
use Rattle.sync_provider.specs.Machine.{ProviderState, judged_by, after_judged, write_code, wrote}

grown_by : (p : ProviderState) (outcome : Result Write ℕ) → length p.directory.writes < length (after_judged p outcome).directory.writes
    → (code_of_judged outcome ≡ SUCCESS) × (length (after_judged p outcome).directory.writes ≡ length p.directory.writes + 1)
grown_by p (Ok write) more = (refl, length-append p.directory.writes (write ∷ []))
grown_by p (Err code) more = absurd (omega arith)

-- a write that adds to the accepted ones has the code 0 and adds one
pub grown : (p : ProviderState) (op : Op) (now : ℕ) → length p.directory.writes < length (wrote p op now).directory.writes
    → (write_code p op now ≡ SUCCESS) × (length (wrote p op now).directory.writes ≡ length p.directory.writes + 1)
grown p op now more = grown_by p (judged_by p.kind p.directory op now) more

same_by : (p : ProviderState) (outcome : Result Write ℕ) → length (after_judged p outcome).directory.writes ≤ length p.directory.writes → after_judged p outcome ≡ p
same_by p (Ok write) less = absurd (omega (arith, length-append p.directory.writes (write ∷ [])))
same_by p (Err code) less = refl

-- a write that adds none leaves the provider
pub refused_same : (p : ProviderState) (op : Op) (now : ℕ) → length (wrote p op now).directory.writes ≤ length p.directory.writes → wrote p op now ≡ p
refused_same p op now less = same_by p (judged_by p.kind p.directory op now) less
