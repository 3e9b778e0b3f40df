-- What the statuses of an answer mean, whatever the mode.
use Rattle.std.proofs.Common.{◌≡◌, ℕ, ◌<◌, List, [], ◌∷◌, Option, Some, None, IfSome, get_or, refl, sym, ap, ◌∙◌, subst}
use Rattle.ps_modes.specs.Owes.{IsVerdict, Owes, OwesStatus, SomeAnswer}
use Rattle.ps_modes.specs.Status.{Exactly, code}
use Rattle.ps_modes.specs.declared.status.Status.{Status}
use Rattle.ps_modes.specs.declared.status.Status.TheVariants.{Holds, Fails, Unknown, BadInput, BadWords, ReadFault, WriteFault, NoMemory}

-- ---- a number is the number of one status

abbrev statuses : List Status
statuses = Holds ∷ Fails ∷ Unknown ∷ BadInput ∷ BadWords ∷ ReadFault ∷ WriteFault ∷ NoMemory ∷ []

numbered : (s : Status) → get_or statuses (code s) Holds ≡ s
numbered Holds = refl
numbered Fails = refl
numbered Unknown = refl
numbered BadInput = refl
numbered BadWords = refl
numbered ReadFault = refl
numbered WriteFault = refl
numbered NoMemory = refl

one_code : (s t : Status) → code s ≡ code t → s ≡ t
one_code s t e = sym (numbered s) ∙ ap (λ (n : ℕ). get_or statuses n Holds) e ∙ numbered t

-- ---- what was written

-- the input and the text, where this is the status of the answer
answered : (Owed : List ℕ → Status → List ℕ → Type 0) (status : Status) → IsVerdict status → (left : Option (List ℕ)) (n : ℕ) (Wrote : List ℕ → Type 0)
    → (n < code BadWords → SomeAnswer Owed left (λ s text. (n ≡ code s) × Wrote text)) → n ≡ code status
    → (input text : List ℕ) × IfSome left (λ bytes. bytes ≡ input) × Owes Owed input status text × Wrote text
answered Owed status verdict left n Wrote answer e =
    let some = answer (subst (λ (k : ℕ). k < code BadWords) (sym e) verdict) in
    let same : some.status ≡ status = one_code some.status status (sym some.holding.0 ∙ e) in
    (some.input, some.text, some.is, subst (λ (s : Status). Owes Owed some.input s some.text) same some.owed, some.holding.1)

-- a line that the input owes with this status was written
pub line_written : (Owed : List ℕ → Status → List ℕ → Type 0) (status : Status) → IsVerdict status → (left : Option (List ℕ)) (n : ℕ) (Wrote : List ℕ → Type 0)
    → (n < code BadWords → SomeAnswer Owed left (λ s text. (n ≡ code s) × Wrote text)) → n ≡ code status
    → IfSome left (λ input. (text : List ℕ) × Owes Owed input status text × Wrote text)
line_written Owed status verdict None n Wrote answer e = tt
line_written Owed status verdict (Some input) n Wrote answer e =
    let all = answered Owed status verdict (Some input) n Wrote answer e in
    (all.1, subst (λ (i : List ℕ). Owes Owed i status all.1) (sym all.2) all.3, all.4)

-- ---- a status with one text

-- the status is owed exactly where the fact holds of the input, and then with this text
pub record IsOwedWhere (Owed : List ℕ → Status → List ℕ → Type 0) (status : Status) (Fact : List ℕ → Type 0) (expected : List ℕ) : Type 0 where
  pub verdict : IsVerdict status
  pub said : (input text : List ℕ) → Owes Owed input status text → Fact input × (text ≡ expected)
  pub owed : (input text : List ℕ) → Fact input × (text ≡ expected) → Owes Owed input status text

-- so it comes exactly there,
pub exactly : {Owed : List ℕ → Status → List ℕ → Type 0} {status : Status} {Fact : List ℕ → Type 0} {expected : List ℕ} → IsOwedWhere Owed status Fact expected
    → (left : Option (List ℕ)) (n : ℕ) → IfSome left (λ input. (s : Status) → IsVerdict s → Exactly n s (OwesStatus Owed input s))
    → IfSome left (λ input. Exactly n status (Fact input))
exactly is None n each = tt
exactly {status = status} {expected = expected} is (Some input) n each =
    let at = each status is.verdict in record {
      only = λ e. let owes = at.only e in (is.said input owes.0 owes.1).0;
      comes = λ fact. at.comes (expected, is.owed input expected (fact, refl));
    }

-- and the text was written
pub written : {Owed : List ℕ → Status → List ℕ → Type 0} {status : Status} {Fact : List ℕ → Type 0} {expected : List ℕ} → IsOwedWhere Owed status Fact expected
    → (left : Option (List ℕ)) (n : ℕ) (Wrote : List ℕ → Type 0) → (n < code BadWords → SomeAnswer Owed left (λ s text. (n ≡ code s) × Wrote text)) → n ≡ code status
    → Wrote expected
written {Owed = Owed} {status = status} is left n Wrote answer e =
    let all = answered Owed status is.verdict left n Wrote answer e in
    subst Wrote (is.said all.0 all.1 all.3).1 all.4

-- where the status came, what follows from the fact holds of the input
pub follows : {Owed : List ℕ → Status → List ℕ → Type 0} {status : Status} {Fact : List ℕ → Type 0} {expected : List ℕ} → IsOwedWhere Owed status Fact expected
    → (Worth : List ℕ → Type 0) → ((input : List ℕ) → Fact input → Worth input)
    → (left : Option (List ℕ)) (n : ℕ) → IfSome left (λ input. (s : Status) → IsVerdict s → Exactly n s (OwesStatus Owed input s)) → n ≡ code status
    → IfSome left Worth
follows is Worth gives None n each e = tt
follows {status = status} is Worth gives (Some input) n each e =
    let owes = (each status is.verdict).only e in gives input (is.said input owes.0 owes.1).0
