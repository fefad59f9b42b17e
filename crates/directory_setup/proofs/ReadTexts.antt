-- What was read of a file.
use Rattle.std.proofs.Common.{◌≡◌, ◌≢◌, ℕ, ◌<◌, Bool, true, false, List, length, Option, Some, None, IfSome, is_some, refl, subst, sym, ◌∙◌, arith}
use Rattle.std.specs.Io.KnownBytes.{Consumes, IsAtEnd}
use Rattle.sync_io.specs.Faults.{CountHasRisen, one_more}
use Rattle.sync_io.specs.Shelf.{IsFile}
use Rattle.directory_setup.specs.Setup.{Files, IsReadFrom, IsTextOf}
use Rattle.directory_setup.specs.Texts.{IsRead, IsReadOf, most_bytes}
use Rattle.directory_setup.specs.declared.text_file.FileText.{FileText}
use Rattle.directory_setup.specs.declared.text_file.FileText.TheVariants as found

-- more was read than a text may have
pub read_long : (before left : Option (List ℕ)) (text : List ℕ)
    → Consumes before left text → most_bytes < length text → IfSome before (λ bytes. IsRead bytes text)
read_long None left text taken long = tt
read_long (Some bytes) None text taken long = absurd taken
read_long (Some bytes) (Some rest) text taken long = record {
  rest = rest;
  prefix = taken;
  whole = λ short. absurd (omega (arith, short, long));
}

-- all was read
pub read_all : (before left : Option (List ℕ)) (text : List ℕ)
    → Consumes before left text → IsAtEnd left → IfSome before (λ bytes. IsRead bytes text)
read_all None left text taken end = tt
read_all (Some bytes) None text taken end = absurd taken
read_all (Some bytes) (Some rest) text taken end = record {
  rest = rest;
  prefix = taken;
  whole = λ _. end;
}

-- what was read of a file of a shelf
pub file_read : (files : Option Files) (name : List ℕ) (left : Option (List ℕ)) (waits : Bool) (text : FileText)
    → IfSome files (λ bytes_of. IsFile (bytes_of name) left waits) → IsReadOf left text → IsReadFrom files name text
file_read None name left waits (found.Text text) file read = tt
file_read None name left waits found.Failed file read = tt
file_read (Some bytes_of) name left waits found.Failed file read = tt
file_read (Some bytes_of) name left waits (found.Text text) file read = by (bytes_of name) refl
  where
    by : (bytes : Option (List ℕ)) → bytes_of name ≡ bytes → IsTextOf (Some bytes_of) name text
    by None is = absurd (let wrong : false ≡ true = subst (λ (o : Option (List ℕ)). is_some o ≡ true) is file.there in cc)
    by (Some bytes) is = (bytes, is, subst (λ (o : Option (List ℕ)). IsReadOf o (found.Text text)) (file.unread ∙ is) read)

-- a file that failed, and was new when it came, is counted as it is given back
pub given_back : (old mid new before after : ℕ) → mid ≡ old → before ≡ 0 → CountHasRisen before after
    → (0 < after → new ≡ one_more mid) → CountHasRisen old new
given_back old mid new before after same fresh rose counts =
    let some : 0 < after = omega (arith, fresh, rose) in
    omega (arith, counts some, same)

-- a text is no failed read
pub text_came : (file : FileText) (text : List ℕ) → file ≡ found.Text text → file ≢ found.Failed
text_came file text is failed = let wrong : found.Text text ≡ found.Failed = sym is ∙ failed in cc
