-- Declared names that differ from one another, and variables that stay when further names are declared.
use Rattle.std.proofs.Common.{◌≡◌, ◌≢◌, ℕ, ◌+◌, ℤ, pos, Bool, true, false, List, [], ◌∷◌, ◌++◌, map, Option, Some, None, refl, sym, ◌∙◌, ap, ap₂, subst}
use Rattle.std.specs.Prelude.{All, option_map, if◌then◌else◌}
use Rattle.std.specs.Str.{bytes_eq}
use Rattle.std.proofs.lemmas.List.Elements.{All-cons, All-head, All-nil, All-tail}
use Rattle.std.proofs.lemmas.Slice.Eq.{bytes_eq-Decides}
use Rattle.ps_term.specs.declared.var.Var.{Var}
use Rattle.ps_term.specs.declared.var.Var.TheVariants.{Global, Local}
use Rattle.ps_tree.specs.declared.sum.Sum.{Sum}
use Rattle.ps_grammar.specs.Names.{Names, first_of, position_from, variable_of_name}
use Rattle.ps_grammar.specs.Fits.{IsKnownName, ProductFits, RelationFits, SumTextFits}
use Rattle.ps_grammar.specs.Grammar.{ProductText, name, name_number, number, number_name, RelationText, SumText}
use Rattle.ps_grammar.specs.Numbers.{number_value, signed}
use Rattle.ps_grammar.specs.Trees.{product_tree, relation_tree, sum_tree, variable_named, variable_or_first}
use Rattle.ps_print.proofs.Members.{not_both}

-- ---- lists of names

abbrev pub NotIn : List ℕ → List (List ℕ) → Type 0
NotIn x [] = Unit {0}
NotIn x (n ∷ ns) = (n ≢ x) × NotIn x ns

abbrev pub Apart : List (List ℕ) → Type 0
Apart [] = Unit {0}
Apart (x ∷ xs) = NotIn x xs × Apart xs

pub not_in_both : (x : List ℕ) (ns ms : List (List ℕ)) → NotIn x ns → NotIn x ms → NotIn x (ns ++ ms)
not_in_both x [] ms h k = k
not_in_both x (n ∷ ns) ms h k = (h.0, not_in_both x ns ms h.1 k)

pub not_in_left : (x : List ℕ) (ns ms : List (List ℕ)) → NotIn x (ns ++ ms) → NotIn x ns
not_in_left x [] ms h = tt
not_in_left x (n ∷ ns) ms h = (h.0, not_in_left x ns ms h.1)

pub not_in_right : (x : List ℕ) (ns ms : List (List ℕ)) → NotIn x (ns ++ ms) → NotIn x ms
not_in_right x [] ms h = h
not_in_right x (n ∷ ns) ms h = not_in_right x ns ms h.1

-- a new name between the others
pub apart_insert : (y : List ℕ) (ns ms : List (List ℕ)) → NotIn y ns → NotIn y ms → Apart (ns ++ ms) → Apart (ns ++ y ∷ ms)
apart_insert y [] ms h k a = (k, a)
apart_insert y (n ∷ ns) ms h k a =
    (not_in_both n ns (y ∷ ms) (not_in_left n ns ms a.0) ((λ (e : y ≡ n). h.0 (sym e)), not_in_right n ns ms a.0), apart_insert y ns ms h.1 k a.1)

-- a name isn't among those before it
pub apart_before : (y : List ℕ) (ns ms : List (List ℕ)) → Apart (ns ++ y ∷ ms) → NotIn y ns
apart_before y [] ms a = tt
apart_before y (n ∷ ns) ms a = ((λ (e : n ≡ y). (not_in_right n ns (y ∷ ms) a.0).0 (sym e)), apart_before y ns ms a.1)

pub apart_left : (ns ms : List (List ℕ)) → Apart (ns ++ ms) → Apart ns
apart_left [] ms a = tt
apart_left (n ∷ ns) ms a = (not_in_left n ns ms a.0, apart_left ns ms a.1)

-- ---- places of names

no_some : {A : Type 0} (x : A) → Some x ≡ None → ⊥
no_some x e = cc

absent_test : (i : ℕ) (x n : List ℕ) (ns : List (List ℕ)) (t : Bool) → bytes_eq n x ≡ t → (if t then Some i else position_from (i + 1) x ns) ≡ None → (position_from (i + 1) x ns ≡ None → NotIn x ns) → (n ≢ x) × NotIn x ns
absent_test i x n ns true e none further = absurd (no_some i none)
absent_test i x n ns false e none further = ((λ (same : n ≡ x). not_both (bytes_eq n x) ((bytes_eq-Decides n x).1 same) e), further none)

pub absent : (i : ℕ) (x : List ℕ) (ns : List (List ℕ)) → position_from i x ns ≡ None → NotIn x ns
absent i x [] e = tt
absent i x (n ∷ ns) e = absent_test i x n ns (bytes_eq n x) refl e (λ h. absent (i + 1) x ns h)

missing_test : (i : ℕ) (x n : List ℕ) (ns : List (List ℕ)) (t : Bool) → bytes_eq n x ≡ t → n ≢ x → position_from (i + 1) x ns ≡ None → (if t then Some i else position_from (i + 1) x ns) ≡ None
missing_test i x n ns true e other further = absurd (other ((bytes_eq-Decides n x).0 e))
missing_test i x n ns false e other further = further

pub missing : (i : ℕ) (x : List ℕ) (ns : List (List ℕ)) → NotIn x ns → position_from i x ns ≡ None
missing i x [] h = refl
missing i x (n ∷ ns) h = missing_test i x n ns (bytes_eq n x) refl h.0 (missing (i + 1) x ns h.1)

stays_test : (i k : ℕ) (x : List ℕ) (ns ms : List (List ℕ)) (t : Bool) → (if t then Some i else position_from (i + 1) x ns) ≡ Some k → (position_from (i + 1) x ns ≡ Some k → position_from (i + 1) x (ns ++ ms) ≡ Some k) → (if t then Some i else position_from (i + 1) x (ns ++ ms)) ≡ Some k
stays_test i k x ns ms true e further = e
stays_test i k x ns ms false e further = further e

stays : (i k : ℕ) (x : List ℕ) (ns ms : List (List ℕ)) → position_from i x ns ≡ Some k → position_from i x (ns ++ ms) ≡ Some k
stays i k x [] ms e = absurd (no_some k (sym e))
stays i k x (n ∷ ns) ms e = stays_test i k x ns ms (bytes_eq n x) e (λ h. stays (i + 1) k x ns ms h)

-- ---- variables

abbrev one_of : Option ℕ → Option ℕ → Option Var
one_of g l = first_of (option_map Global g) (option_map (Local 0) l)

new_by : (names : Names) (x : List ℕ) (g l : Option ℕ) → position_from 0 x names.globals ≡ g → position_from 0 x names.locals ≡ l → one_of g l ≡ None → NotIn x names.globals × NotIn x names.locals
new_by names x (Some k) l e f none = absurd (no_some (Global k) none)
new_by names x None (Some k) e f none = absurd (no_some (Local 0 k) none)
new_by names x None None e f none = (absent 0 x names.globals e, absent 0 x names.locals f)

-- a name that stands for no variable is among neither
pub new_from : (names : Names) (x : List ℕ) → variable_of_name names x ≡ None → NotIn x names.globals × NotIn x names.locals
new_from names x none = new_by names x (position_from 0 x names.globals) (position_from 0 x names.locals) refl refl none

pub new_to : (names : Names) (x : List ℕ) → NotIn x names.globals → NotIn x names.locals → variable_of_name names x ≡ None
new_to names x h k = ap₂ one_of (missing 0 x names.globals h) (missing 0 x names.locals k)

-- further names leave the variables of those before
abbrev pub Extends : Names → Names → Type 0
Extends names more = (x : List ℕ) → IsKnownName names x → variable_of_name more x ≡ variable_of_name names x

global_by : (gs ls : List (List ℕ)) (y x : List ℕ) (g l : Option ℕ) → NotIn y ls → position_from 0 x gs ≡ g → position_from 0 x ls ≡ l → one_of g l ≢ None → one_of (position_from 0 x (gs ++ y ∷ [])) l ≡ one_of g l
global_by gs ls y x (Some k) l new e f known = ap (λ (o : Option ℕ). one_of o l) (stays 0 k x gs (y ∷ []) e)
global_by gs ls y x None (Some k) new e f known =
    ap (λ (o : Option ℕ). one_of o (Some k))
    (missing 0 x (gs ++ y ∷ []) (not_in_both x gs (y ∷ []) (absent 0 x gs e)
    ((λ (same : y ≡ x). no_some k (sym f ∙ missing 0 x ls (subst (λ (z : List ℕ). NotIn z ls) same new))), tt)))
global_by gs ls y x None None new e f known = absurd (known refl)

pub global_extends : (gs ls : List (List ℕ)) (y : List ℕ) → NotIn y ls → Extends (record { globals = gs; locals = ls }) (record { globals = gs ++ y ∷ []; locals = ls })
global_extends gs ls y new x known = global_by gs ls y x (position_from 0 x gs) (position_from 0 x ls) new refl refl known

local_by : (ls : List (List ℕ)) (y x : List ℕ) (g l : Option ℕ) → position_from 0 x ls ≡ l → one_of g l ≢ None → one_of g (position_from 0 x (ls ++ y ∷ [])) ≡ one_of g l
local_by ls y x (Some k) l f known = refl
local_by ls y x None (Some k) f known = ap (λ (o : Option ℕ). one_of None o) (stays 0 k x ls (y ∷ []) f)
local_by ls y x None None f known = absurd (known refl)

pub local_extends : (gs ls : List (List ℕ)) (y : List ℕ) → Extends (record { globals = gs; locals = ls }) (record { globals = gs; locals = ls ++ y ∷ [] })
local_extends gs ls y x known = local_by ls y x (position_from 0 x gs) (position_from 0 x ls) refl known

-- ---- what is read of sums and relations with further names

known_more : (names more : Names) → Extends names more → (x : List ℕ) → IsKnownName names x → IsKnownName more x
known_more names more ext x known e = known (sym (ext x known) ∙ e)

variable_more : (names more : Names) → Extends names more → (x : List ℕ) → IsKnownName names x → variable_named more x ≡ variable_named names x
variable_more names more ext x known = ap variable_or_first (ext x known)

pub product_more : (names more : Names) → Extends names more → (t : ProductText) → ProductFits names t → ProductFits more t × (product_tree more t ≡ product_tree names t)
product_more names more ext (number n) fit = (tt, refl)
product_more names more ext (name x) fit = (known_more names more ext x fit, ap (λ (v : Var). (pos 1, Some v)) (variable_more names more ext x fit))
product_more names more ext (number_name n x) fit = (known_more names more ext x fit, ap (λ (v : Var). (number_value n, Some v)) (variable_more names more ext x fit))
product_more names more ext (name_number x n) fit = (known_more names more ext x fit, ap (λ (v : Var). (number_value n, Some v)) (variable_more names more ext x fit))

abbrev FurtherFits : Names → List (Bool × ProductText) → Type 0
FurtherFits names fs = All (λ (p : Bool × ProductText). ProductFits names p.1) fs

abbrev terms : Names → List (Bool × ProductText) → List (ℤ × Option Var)
terms names fs = map (λ (p : Bool × ProductText). signed p.0 (product_tree names p.1)) fs

further_more : (names more : Names) → Extends names more → (fs : List (Bool × ProductText)) → FurtherFits names fs → FurtherFits more fs × (terms more fs ≡ terms names fs)
further_more names more ext [] fit = (All-nil (λ (p : Bool × ProductText). ProductFits more p.1), refl)
further_more names more ext (f ∷ fs) fit =
    let p = product_more names more ext f.1 (All-head (λ (q : Bool × ProductText). ProductFits names q.1) f fs fit) in
    let r = further_more names more ext fs (All-tail (λ (q : Bool × ProductText). ProductFits names q.1) f fs fit) in
    (All-cons (λ (q : Bool × ProductText). ProductFits more q.1) f fs p.0 r.0, ap₂ (λ (q : ℤ × Option Var) (qs : List (ℤ × Option Var)). signed f.0 q ∷ qs) p.1 r.1)

sum_more : (names more : Names) → Extends names more → (s : SumText) → SumTextFits names s → SumTextFits more s × (sum_tree more s ≡ sum_tree names s)
sum_more names more ext s fit =
    let p = product_more names more ext s.first fit.0 in
    let r = further_more names more ext s.further fit.1 in
    ((p.0, r.0), ap₂ (λ (q : ℤ × Option Var) (qs : List (ℤ × Option Var)). record { terms = signed s.negative q ∷ qs }) p.1 r.1)

pub relation_more : (names more : Names) → Extends names more → (r : RelationText) → RelationFits names r → RelationFits more r × (relation_tree more r ≡ relation_tree names r)
relation_more names more ext r fit =
    let a = sum_more names more ext r.left fit.0 in
    let b = sum_more names more ext r.right fit.1 in
    ((a.0, b.0), ap₂ (λ (x y : Sum). record { left = x; sign = r.sign; right = y }) a.1 b.1)
