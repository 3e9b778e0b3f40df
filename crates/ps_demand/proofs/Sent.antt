-- The renaming that two lists of threads determine.
use Rattle.std.proofs.Common.{◌≡◌, ℕ, Bool, true, false, ◌==◌, List, [], ◌∷◌, map, refl, sym, ap, ap₂, ◌∙◌, subst, inl, inr, Contains}
use Rattle.std.proofs.lemmas.Bool.{false≢true, eqb-true, eqb-false, eq-eqb, and_parts, and_from, cases_eq}
use Rattle.ps_atom.specs.Atoms.{IsInjectiveOn}
use Rattle.ps_list.proofs.Members.{nothing, here, there}
use Rattle.ps_config.specs.Sent.{sent}
use Rattle.ps_list.proofs.Mapped.{same_map}
use Rattle.ps_config.proofs.Sent.{sent_first, sent_later, later_in}
use Rattle.ps_demand.specs.Demands.{alike, agrees, is_renaming}

-- ---- tests of two pairs

alike_is : (a b : Bool) → alike a b ≡ true → a ≡ b
alike_is true b h = sym h
alike_is false true h = h
alike_is false false h = refl

is_alike : (a b : Bool) → a ≡ b → alike a b ≡ true
is_alike true b h = sym h
is_alike false true h = h
is_alike false false h = refl

same_tests_at : (s t u v : ℕ) (a b : Bool) → (s == t) ≡ a → (u == v) ≡ b → (s ≡ t → u ≡ v) → (u ≡ v → s ≡ t) → a ≡ b
same_tests_at s t u v true true e f to back = refl
same_tests_at s t u v true false e f to back = absurd (eqb-false u v f (to (eqb-true s t e)))
same_tests_at s t u v false true e f to back = absurd (eqb-false s t e (back (eqb-true u v f)))
same_tests_at s t u v false false e f to back = refl

same_tests : (s t u v : ℕ) → (s ≡ t → u ≡ v) → (u ≡ v → s ≡ t) → alike (s == t) (u == v) ≡ true
same_tests s t u v to back = is_alike (s == t) (u == v) (same_tests_at s t u v (s == t) (u == v) refl refl to back)

tests_to : (s t u v : ℕ) → alike (s == t) (u == v) ≡ true → s ≡ t → u ≡ v
tests_to s t u v h e = eqb-true u v (sym (alike_is (s == t) (u == v) h) ∙ eq-eqb s t e)

tests_back : (s t u v : ℕ) → alike (s == t) (u == v) ≡ true → u ≡ v → s ≡ t
tests_back s t u v h e = eqb-true s t (alike_is (s == t) (u == v) h ∙ eq-eqb u v e)

-- ---- where a list of images is that of a function

agrees_image : (new : ℕ → ℕ) (s : ℕ) (ts : List ℕ) → ((t : ℕ) → Contains ts t → new s ≡ new t → s ≡ t) → agrees s (new s) ts (map new ts) ≡ true
agrees_image new s [] h = refl
agrees_image new s (t ∷ ts) h =
    and_from (alike (s == t) (new s == new t)) (agrees s (new s) ts (map new ts)) (same_tests s t (new s) (new t) (λ e. ap new e) (h t (here t ts)))
    (agrees_image new s ts (λ v c. h v (there t ts v c)))

-- an injection of the list is found to be one
pub image_is_renaming : (new : ℕ → ℕ) (ss : List ℕ) → IsInjectiveOn new ss → is_renaming ss (map new ss) ≡ true
image_is_renaming new [] h = refl
image_is_renaming new (s ∷ ss) h =
    and_from (agrees s (new s) ss (map new ss)) (is_renaming ss (map new ss)) (agrees_image new s ss (λ t c. h s t (here s ss) (there s ss t c)))
    (image_is_renaming new ss (λ t v c d. h t v (there s ss t c) (there s ss v d)))

-- ---- what is found to be a renaming

sent_agreed : (s u : ℕ) (ts vs : List ℕ) → agrees s u ts vs ≡ true → is_renaming ts vs ≡ true → Contains ts s → sent ts vs s ≡ u
sent_agreed s u [] vs a r h = absurd (nothing s h)
sent_agreed s u (t ∷ ts) [] a r h = absurd (false≢true r)
sent_agreed s u (t ∷ ts) (v ∷ vs) a r h =
    let both = and_parts (alike (s == t) (u == v)) (agrees s u ts vs) a in
    let rest = and_parts (agrees t v ts vs) (is_renaming ts vs) r in
    elim (cases_eq t s) [
      | inl is ↦ sent_first t v s ts vs is ∙ sym (tests_to s t u v both.0 (sym is))
      | inr other ↦ sent_later t v s ts vs other ∙ sent_agreed s u ts vs both.1 rest.1 (later_in t s ts other h)
    ]

agreed_same : (s u : ℕ) (ts vs : List ℕ) (t : ℕ) → agrees s u ts vs ≡ true → is_renaming ts vs ≡ true → Contains ts t → u ≡ sent ts vs t → s ≡ t
agreed_same s u [] vs t a r h e = absurd (nothing t h)
agreed_same s u (x ∷ ts) [] t a r h e = absurd (false≢true r)
agreed_same s u (x ∷ ts) (v ∷ vs) t a r h e =
    let both = and_parts (alike (s == x) (u == v)) (agrees s u ts vs) a in
    let rest = and_parts (agrees x v ts vs) (is_renaming ts vs) r in
    elim (cases_eq x t) [
      | inl is ↦ tests_back s x u v both.0 (e ∙ sent_first x v t ts vs is) ∙ is
      | inr other ↦ agreed_same s u ts vs t both.1 rest.1 (later_in x t ts other h) (e ∙ sent_later x v t ts vs other)
    ]

-- at the later numbers the first pair changes nothing
sent_on : (s u : ℕ) (ss us : List ℕ) (t : ℕ) → agrees s u ss us ≡ true → is_renaming ss us ≡ true → Contains ss t → sent (s ∷ ss) (u ∷ us) t ≡ sent ss us t
sent_on s u ss us t a r h = elim (cases_eq s t) [
  | inl is ↦ sent_first s u t ss us is ∙ sym (sent_agreed t u ss us (subst (λ (x : ℕ). agrees x u ss us ≡ true) is a) r h)
  | inr other ↦ sent_later s u t ss us other
]

pub sent_all : (ss us : List ℕ) → is_renaming ss us ≡ true → map (sent ss us) ss ≡ us
sent_all [] [] r = refl
sent_all [] (u ∷ us) r = absurd (false≢true r)
sent_all (s ∷ ss) [] r = absurd (false≢true r)
sent_all (s ∷ ss) (u ∷ us) r =
    let both = and_parts (agrees s u ss us) (is_renaming ss us) r in
    ap₂ (λ (x : ℕ) (xs : List ℕ). x ∷ xs) (sent_first s u s ss us refl)
    (same_map (sent (s ∷ ss) (u ∷ us)) (sent ss us) ss (λ t h. sent_on s u ss us t both.0 both.1 h) ∙ sent_all ss us both.1)

pub sent_apart : (ss us : List ℕ) → is_renaming ss us ≡ true → IsInjectiveOn (sent ss us) ss
sent_apart [] us r s t hs ht e = absurd (nothing s hs)
sent_apart (x ∷ ss) [] r s t hs ht e = absurd (false≢true r)
sent_apart (x ∷ ss) (u ∷ us) r s t hs ht e =
    let both = and_parts (agrees x u ss us) (is_renaming ss us) r in
    elim (cases_eq x s) [
      | inl xs ↦ elim (cases_eq x t) [
        | inl xt ↦ sym xs ∙ xt
        | inr other ↦ sym xs ∙ agreed_same x u ss us t both.0 both.1 (later_in x t ss other ht) (sym (sent_first x u s ss us xs) ∙ (e ∙ sent_later x u t ss us other))
      ]
      | inr xs ↦ elim (cases_eq x t) [
        | inl xt ↦ sym (sym xt ∙ agreed_same x u ss us s both.0 both.1 (later_in x s ss xs hs) (sym (sent_first x u t ss us xt) ∙ (sym e ∙ sent_later x u s ss us xs)))
        | inr other ↦ sent_apart ss us both.1 s t (later_in x s ss xs hs) (later_in x t ss other ht) (sym (sent_later x u s ss us xs) ∙ (e ∙ sent_later x u t ss us other))
      ]
    ]
