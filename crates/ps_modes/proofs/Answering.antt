-- An input that is too long owes one answer, and so does one that its source gave more of.
use Rattle.std.proofs.Common.{◌≡◌, ℕ, ◌<◌, List, length, Option, Some, None, Result, Ok, Err, IfOk, IsErrAnd, MatchResult, refl, sym, ap, ◌∙◌, arith, length-append}
use Rattle.ps_io.specs.Bytes.{GaveMore}
use Rattle.ps_modes.specs.Inner.Settled.{Settled}
use Rattle.ps_modes.specs.Owes.{IsOwedAnswer, Owes, TooLong, Within}
use Rattle.ps_modes.specs.Status.{code}
use Rattle.ps_modes.specs.declared.input.TheConstants.{MOST_BYTES}
use Rattle.ps_modes.specs.declared.status.Status.{Status}
use Rattle.ps_modes.specs.declared.status.Status.TheVariants.{BadInput}
use Rattle.ps_modes.specs.declared.texts.TheConstants.{TOO_LONG}

pub only_long : (Owed : List ℕ → Status → List ℕ → Type 0) (input : List ℕ) → MOST_BYTES < length input
    → (s : Status) (t : List ℕ) → Owes Owed input s t → (s ≡ BadInput) × (t ≡ TOO_LONG.now)
only_long Owed input long s t (TooLong _ e f) = (e, f)
only_long Owed input long s t (Within short _) = absurd (omega (arith, long, short))

long_answer : (Owed : List ℕ → Status → List ℕ → Type 0) (input : List ℕ) (status : Status) (text : List ℕ)
    → MOST_BYTES < length input → status ≡ BadInput → text ≡ TOO_LONG.now → IsOwedAnswer (Owes Owed input) status text
long_answer Owed input status text long e f = record {
  owed = TooLong long e f;
  only = λ s t owes. let same = only_long Owed input long s t owes in (same.0 ∙ sym e, same.1 ∙ sym f);
}

-- a source gave more than may be read
pub long_settled : (Owed : List ℕ → Status → List ℕ → Type 0) (left after : Option (List ℕ)) (status : Status) (text : List ℕ)
    → GaveMore MOST_BYTES left after → status ≡ BadInput → text ≡ TOO_LONG.now → Settled Owed left status text
long_settled Owed None after status text gave e f = record {
  input = gave.0;
  is = tt;
  answer = long_answer Owed gave.0 status text gave.2 e f;
  verdict = omega (arith, ap code e);
}
long_settled Owed (Some bytes) None status text gave e f = absurd gave.1
long_settled Owed (Some bytes) (Some rest) status text gave e f = record {
  input = bytes;
  is = refl;
  answer = long_answer Owed bytes status text (omega (arith, ap length gave.1, length-append gave.0 rest, gave.2)) e f;
  verdict = omega (arith, ap code e);
}

-- what two facts say of a value, where only the error was changed
pub IfOk-made : {A E D : Type 0} (r : Result A E) (s : Result A D) (Made : E → D → Type 0) (P Q R : A → Type 0)
    → ((x : A) → P x → Q x → R x) → MatchResult r (λ x. s ≡ Ok x) (λ e. IsErrAnd s (Made e)) → IfOk r P → IfOk r Q → IfOk s R
IfOk-made (Ok x) s Made P Q R both is p q = rw is (both x p q)
IfOk-made (Err e) (Ok y) Made P Q R both is p q = absurd is
IfOk-made (Err e) (Err d) Made P Q R both is p q = tt

-- where a mode owes one answer at most to an input, so does the program
pub one_owes : (Owed : List ℕ → Status → List ℕ → Type 0) (input : List ℕ)
    → ((s t : Status) (x y : List ℕ) → Owed input s x → Owed input t y → (s ≡ t) × (x ≡ y))
    → (s t : Status) (x y : List ℕ) → Owes Owed input s x → Owes Owed input t y → (s ≡ t) × (x ≡ y)
one_owes Owed input one s t x y (TooLong long e f) other =
    let same = only_long Owed input long t y other in (e ∙ sym same.0, f ∙ sym same.1)
one_owes Owed input one s t x y (Within short owed) (TooLong long _ _) = absurd (omega (arith, long, short))
one_owes Owed input one s t x y (Within short owed) (Within _ other) = one s t x y owed other
