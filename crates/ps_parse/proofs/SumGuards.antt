-- The laws of names, sums and relations.
use Rattle.std.proofs.Common.{◌≡◌, ◌≢◌, ℕ, ℤ, pos, Bool, true, false, ◌&&◌, ◌||◌, ◌⊎◌, inl, inr, List, [], ◌∷◌, ◌++◌, map, drop, Option, Some, None, Result, Ok, refl, sym, ap, subst, ◌∙◌, arith, append_assoc}
use Rattle.std.specs.Prelude.{ok_or, if◌then◌else◌}
use Rattle.std.specs.List.{flat_map, AllByRecursion}
use Rattle.std.proofs.lemmas.Option.{none-some}
use Rattle.ps_token.specs.declared.place.Place.{Place}
use Rattle.ps_token.specs.declared.token_kind.TokenKind.{TokenKind}
use Rattle.ps_token.specs.declared.token_kind.TokenKind.TheVariants as kind
use Rattle.ps_term.specs.declared.var.Var.{Var}
use Rattle.ps_parse.specs.declared.read_refusal.ReadRefusal.{ReadRefusal}
use Rattle.ps_parse.specs.declared.read_refusal.ReadRefusal.TheVariants.{Grammar}
use Rattle.ps_tree.specs.declared.relation.Relation.{Relation}
use Rattle.ps_tree.specs.declared.relation.Sign.{Sign}
use Rattle.ps_tree.specs.declared.relation.Sign.TheVariants as sign
use Rattle.ps_tree.specs.declared.sum.Sum.{Sum}
use Rattle.ps_grammar.specs.Grammar.{ProductText, number, name, number_name, name_number, SumText, RelationText}
use Rattle.ps_grammar.specs.Words.{Word}
use Rattle.ps_parse.specs.Inner.Reading.{WordsAhead, ReadWords, next_is, next_word, after_word}
use Rattle.ps_lines.specs.Steps.{◌>>=◌}
use Rattle.ps_grammar.specs.Names.{Names}
use Rattle.ps_parse.specs.Inner.Variables.{variable_at}
use Rattle.ps_grammar.specs.Numbers.{number_value, signed}
use Rattle.ps_grammar.specs.Trees.{variable_named, product_tree, sum_tree, relation_tree}
use Rattle.ps_parse.specs.Causes.{last_of, last_product, is_alone}
use Rattle.ps_parse.specs.Inner.Sums.{factor_at, number_product_at, name_product_at, product_at, first_product_at, further_product_at, sum_at, sign_from, sign_ahead, relation_at, sign_of, init_sign_of}
use Rattle.ps_parse.specs.Kinds.{is_kind}
use Rattle.ps_grammar.specs.Spelling.{Piece, NamePiece, NumberPiece, Mark, piece_of_kind, pieces, product_pieces, minus_pieces, plus_or_minus, further_pieces, sum_pieces, sign_kind, relation_pieces}
use Rattle.ps_parse.proofs.Steps.{same_kind, kind_of, kind_of_piece, begins_piece, Not, Always, next_test, either_test, IsMark, mapped, both, three_is, pair_up, of_pair, bind_same, bind_bind, bind_end}
use Rattle.ps_parse.proofs.Guards.{Keeps, keeps_bind, keeps_end, first_alike, none_alike, Any, Stood, Made, Guards, Example, stood_here, example_of, name_sort, number_sort, one_piece, word_guards}
use Rattle.ps_parse.proofs.GuardSteps.{guards_same, guards_as, mapped_guards, nothing_guards, Joins, any_joins, both_guards, after_guards, OfSort, choice_guards}
use Rattle.ps_parse.proofs.GuardLoops.{GoesOn, list_trees, more_joins, while_guards}

-- ---- names

abbrev pub name_piece : List ℕ → List Piece
name_piece = one_piece NamePiece

abbrev pub number_piece : List ℕ → List Piece
number_piece = one_piece NumberPiece

pub variable_guards : (n : ℕ) (names : Names) → Guards n (variable_at names) name_piece Always (λ x ps. variable_named names x) Any
unfolding variable_at
variable_guards n names = word_guards n kind.Name NamePiece (λ t. t) name_sort (variable_named names)

pub name_example : Example name_piece Always
name_example = example_of [] tt refl

pub number_example : Example number_piece Always
number_example = example_of [] tt refl

-- ---- a word and more, or nothing

abbrev opt_at : {A : Type 0} → TokenKind → ReadWords A → ReadWords (Option A)
opt_at k read at = if next_is k at then mapped Some (after_word k read) at else Ok (None, at)

abbrev pub opt_pieces : {C : Type 0} → TokenKind → (C → List Piece) → Option C → List Piece
opt_pieces k spell None = []
opt_pieces k spell (Some c) = Mark k ∷ spell c

abbrev pub opt_tree : {C A : Type 0} → (C → List Place → A) → Option C → List Place → Option A
opt_tree tree None ps = None
opt_tree tree (Some c) ps = Some (tree c (drop 1 ps))

abbrev pub OptEnds : {C : Type 0} → TokenKind → Option C → List Piece → Type 0
OptEnds k None rest = Not k rest
OptEnds k (Some c) rest = Unit {0}

pub opt_guards : {C A : Type 0} {n : ℕ} {read : ReadWords A} {spell : C → List Piece} {tree : C → List Place → A} (k : TokenKind) → IsMark k → Example spell Always
    → Guards n read spell Always tree Any → Guards n (opt_at k read) (opt_pieces k spell) Always (opt_tree tree) (OptEnds k)
opt_guards {C = C} {n = n} {spell = spell} {tree = tree} k marked example g =
    choice_guards (opt_pieces k spell) Always (opt_tree tree) (OptEnds k) (next_test k) (λ c. Some c) (λ c h. tt) (λ (u : Unit {0}). None) (λ u h. tt)
    sort (λ c rest h. tt) (λ u rest h. tt)
    (mapped_guards Some (after_guards k marked example g))
    (nothing_guards n None Any)
  where
    sort : (o : Option C) → Always o → OfSort (begins_piece k) true (opt_pieces k spell) (OptEnds k) (λ c. Some c) Always o ⊎ OfSort (begins_piece k) false (opt_pieces k spell) (OptEnds k) (λ (u : Unit {0}). None) Always o
    sort None ok = inr (record { text = tt; same = refl; fine = tt; tells = λ rest h. h })
    sort (Some c) ok = inl (record { text = c; same = refl; fine = tt; tells = λ rest h. same_kind k k refl })

opt_then : {A B : Type 0} (k : TokenKind) (read : ReadWords A) (at : WordsAhead) (g : Option A × WordsAhead → Result B ReadRefusal) → (opt_at k read at >>= g) ≡ (if next_is k at then (after_word k read at >>= λ x. g (Some x.0, x.1)) else g (None, at))
opt_then {A = A} {B = B} k read at g = by_test (next_is k at)
  where
    by_test : (t : Bool) → ((if t then mapped Some (after_word k read) at else Ok (None, at)) >>= g) ≡ (if t then (after_word k read at >>= λ x. g (Some x.0, x.1)) else g (None, at))
    by_test true = bind_bind _ _ _ ∙ bind_same _ _ _ (λ x. bind_end _ _)
    by_test false = bind_end _ _

-- ---- products

abbrev digits_at : ReadWords ℤ
digits_at at = next_word kind.Number at >>= λ w. Ok (number_value w.0.text, w.1)

pub digits_guards : (n : ℕ) → Guards n digits_at number_piece Always (λ d ps. number_value d) Any
digits_guards n = word_guards n kind.Number NumberPiece (λ t. t) number_sort number_value

pub factor_guards : (n : ℕ) → Guards n factor_at number_piece Always (λ d ps. number_value d) Any
unfolding factor_at
factor_guards n = digits_guards n

abbrev with_variable : ℤ → Option Var → ℤ × Option Var
with_variable d o = (d, o)

number_product_is : (names : Names) (at : WordsAhead) → both with_variable digits_at (opt_at kind.Star (variable_at names)) at ≡ number_product_at names at
unfolding number_product_at
number_product_is names at = bind_bind _ _ _ ∙ bind_same _ _ _ (λ n. bind_end _ _ ∙ opt_then kind.Star (variable_at names) n.1 _)

abbrev named : Var → Option ℤ → ℤ × Option Var
named v None = (pos 1, Some v)
named v (Some d) = (d, Some v)

name_product_is : (names : Names) (at : WordsAhead) → both named (variable_at names) (opt_at kind.Star factor_at) at ≡ name_product_at names at
unfolding name_product_at
name_product_is names at = bind_same _ _ _ (λ x. opt_then kind.Star factor_at x.1 _)

abbrev Parts : Type 0
Parts = List ℕ × Option (List ℕ)

abbrev number_text : List ℕ → Option (List ℕ) → ProductText
number_text d None = number d
number_text d (Some x) = number_name d x

abbrev name_text : List ℕ → Option (List ℕ) → ProductText
name_text x None = name x
name_text x (Some d) = name_number x d

-- a number or a name alone goes on with `*`
abbrev pub carries : ProductText → List Piece → Bool
carries c rest = is_alone c && begins_piece kind.Star rest

abbrev pub ProductEnds : ProductText → List Piece → Type 0
ProductEnds c rest = carries c rest ≡ false

number_spelled : (d : List ℕ) (o : Option (List ℕ)) → number_piece d ++ opt_pieces kind.Star name_piece o ≡ product_pieces (number_text d o)
number_spelled d None = refl
number_spelled d (Some x) = refl

name_spelled : (x : List ℕ) (o : Option (List ℕ)) → name_piece x ++ opt_pieces kind.Star number_piece o ≡ product_pieces (name_text x o)
name_spelled x None = refl
name_spelled x (Some d) = refl

number_said : (names : Names) (d : List ℕ) (o : Option (List ℕ)) (ps : List Place) → with_variable (number_value d) (opt_tree (λ x qs. variable_named names x) o ps) ≡ product_tree names (number_text d o)
number_said names d None ps = refl
number_said names d (Some x) ps = refl

name_said : (names : Names) (x : List ℕ) (o : Option (List ℕ)) (ps : List Place) → named (variable_named names x) (opt_tree (λ d qs. number_value d) o ps) ≡ product_tree names (name_text x o)
name_said names x None ps = refl
name_said names x (Some d) ps = refl

number_stops : (d : List ℕ) (o : Option (List ℕ)) (rest : List Piece) → ProductEnds (number_text d o) rest → OptEnds kind.Star o rest
number_stops d None rest h = h
number_stops d (Some x) rest h = tt

name_stops : (x : List ℕ) (o : Option (List ℕ)) (rest : List Piece) → ProductEnds (name_text x o) rest → OptEnds kind.Star o rest
name_stops x None rest h = h
name_stops x (Some d) rest h = tt

number_product_guards : (n : ℕ) (names : Names) → Guards n (number_product_at names) (λ (c : Parts). product_pieces (number_text c.0 c.1)) Always (λ c ps. product_tree names (number_text c.0 c.1)) (λ c. ProductEnds (number_text c.0 c.1))
number_product_guards n names =
    guards_as (λ c. c) (λ c. c)
    (record {
      back = λ c. refl;
      spelled = λ c. number_spelled c.0 c.1;
      fine = λ c h. tt;
      unfine = λ c h. (tt, tt);
      said = λ c ps. number_said names c.0 c.1 (drop 1 ps);
      stops = λ c rest h. number_stops c.0 c.1 rest h;
    })
    (guards_same _ (number_product_is names)
    (both_guards with_variable any_joins (example_of None tt refl) (digits_guards n) (opt_guards kind.Star (λ u. refl) name_example (variable_guards n names))))

name_product_guards : (n : ℕ) (names : Names) → Guards n (name_product_at names) (λ (c : Parts). product_pieces (name_text c.0 c.1)) Always (λ c ps. product_tree names (name_text c.0 c.1)) (λ c. ProductEnds (name_text c.0 c.1))
name_product_guards n names =
    guards_as (λ c. c) (λ c. c)
    (record {
      back = λ c. refl;
      spelled = λ c. name_spelled c.0 c.1;
      fine = λ c h. tt;
      unfine = λ c h. (tt, tt);
      said = λ c ps. name_said names c.0 c.1 (drop 1 ps);
      stops = λ c rest h. name_stops c.0 c.1 rest h;
    })
    (guards_same _ (name_product_is names)
    (both_guards named any_joins (example_of None tt refl) (variable_guards n names) (opt_guards kind.Star (λ u. refl) number_example (factor_guards n))))

product_sort : (c : ProductText) → Always c → OfSort (begins_piece kind.Number) true product_pieces ProductEnds (λ (c : Parts). number_text c.0 c.1) Always c ⊎ OfSort (begins_piece kind.Number) false product_pieces ProductEnds (λ (c : Parts). name_text c.0 c.1) Always c
product_sort (number d) ok = inl (record { text = (d, None); same = refl; fine = tt; tells = λ rest h. refl })
product_sort (number_name d x) ok = inl (record { text = (d, Some x); same = refl; fine = tt; tells = λ rest h. refl })
product_sort (name x) ok = inr (record { text = (x, None); same = refl; fine = tt; tells = λ rest h. refl })
product_sort (name_number x d) ok = inr (record { text = (x, Some d); same = refl; fine = tt; tells = λ rest h. refl })

product_guards : (n : ℕ) (names : Names) → Guards n (product_at names) product_pieces Always (λ c ps. product_tree names c) ProductEnds
unfolding product_at
product_guards n names =
    choice_guards product_pieces Always (λ c ps. product_tree names c) ProductEnds (next_test kind.Number)
    (λ (c : Parts). number_text c.0 c.1) (λ c h. tt) (λ (c : Parts). name_text c.0 c.1) (λ c h. tt)
    product_sort (λ c rest h. h) (λ c rest h. h) (number_product_guards n names) (name_product_guards n names)

product_example : Example product_pieces Always
product_example = example_of (number []) tt refl

-- a product begins with a number or a name
pub product_begins : (k : TokenKind) → is_kind kind.Number k ≡ false → is_kind kind.Name k ≡ false → (c : ProductText) (rest : List Piece) → Not k (product_pieces c ++ rest)
product_begins k a b (number d) rest = a
product_begins k a b (name x) rest = b
product_begins k a b (number_name d x) rest = a
product_begins k a b (name_number x d) rest = b

-- ---- sums

abbrev pub SignedText : Type 0
SignedText = Bool × ProductText

abbrev signed_tree : Names → SignedText → List Place → ℤ × Option Var
signed_tree names c ps = signed c.0 (product_tree names c.1)

abbrev SignedEnds : SignedText → List Piece → Type 0
SignedEnds c = ProductEnds c.1

abbrev pub first_pieces : SignedText → List Piece
first_pieces c = minus_pieces c.0 ++ product_pieces c.1

abbrev pub further_piece : SignedText → List Piece
further_piece c = Mark (plus_or_minus c.0) ∷ product_pieces c.1

minus_guards : (n : ℕ) (names : Names) → Guards n (mapped (signed true) (after_word kind.Minus (product_at names))) (λ c. Mark kind.Minus ∷ product_pieces c) Always (λ c ps. signed true (product_tree names c)) ProductEnds
minus_guards n names = mapped_guards (signed true) (after_guards kind.Minus (λ u. refl) product_example (product_guards n names))

first_sort : (c : SignedText) → Always c → OfSort (begins_piece kind.Minus) true first_pieces SignedEnds (λ p. (true, p)) Always c ⊎ OfSort (begins_piece kind.Minus) false first_pieces SignedEnds (λ p. (false, p)) Always c
first_sort (true, c) ok = inl (record { text = c; same = refl; fine = tt; tells = λ rest h. refl })
first_sort (false, c) ok = inr (record { text = c; same = refl; fine = tt; tells = λ rest h. product_begins kind.Minus refl refl c rest })

first_guards : (n : ℕ) (names : Names) → Guards n (first_product_at names) first_pieces Always (signed_tree names) SignedEnds
unfolding first_product_at
first_guards n names =
    choice_guards first_pieces Always (signed_tree names) SignedEnds (next_test kind.Minus) (λ p. (true, p)) (λ c h. tt) (λ p. (false, p)) (λ c h. tt)
    first_sort (λ c rest h. h) (λ c rest h. h) (minus_guards n names) (product_guards n names)

further_sort : (c : SignedText) → Always c → OfSort (begins_piece kind.Plus) true further_piece SignedEnds (λ p. (false, p)) Always c ⊎ OfSort (begins_piece kind.Plus) false further_piece SignedEnds (λ p. (true, p)) Always c
further_sort (true, c) ok = inr (record { text = c; same = refl; fine = tt; tells = λ rest h. refl })
further_sort (false, c) ok = inl (record { text = c; same = refl; fine = tt; tells = λ rest h. refl })

further_guards : (n : ℕ) (names : Names) → Guards n (further_product_at names) further_piece Always (signed_tree names) SignedEnds
unfolding further_product_at
further_guards n names =
    choice_guards further_piece Always (signed_tree names) SignedEnds (next_test kind.Plus) (λ p. (false, p)) (λ c h. tt) (λ p. (true, p)) (λ c h. tt)
    further_sort (λ c rest h. h) (λ c rest h. h) (after_guards kind.Plus (λ u. refl) product_example (product_guards n names)) (minus_guards n names)

abbrev pub begins_adding : List Piece → Bool
begins_adding ps = begins_piece kind.Plus ps || begins_piece kind.Minus ps

pub no_both : (a : Bool) → (a && false) ≡ false
no_both true = refl
no_both false = refl

adding : (c : SignedText) (rest : List Piece) → begins_adding (further_piece c ++ rest) ≡ true
adding (true, c) rest = refl
adding (false, c) rest = refl

adding_joins : (c d : SignedText) (rest : List Piece) → SignedEnds c (further_piece d ++ rest)
adding_joins c (true, d) rest = no_both (is_alone c.1)
adding_joins c (false, d) rest = no_both (is_alone c.1)

further_goes_on : GoesOn begins_adding further_piece SignedEnds
further_goes_on = record { starts = adding; joins = adding_joins; some = λ c. omega arith }

-- What may follow a sum: nothing that goes on in it or in its last product.
abbrev pub SumEnds : SumText → List Piece → Type 0
SumEnds s rest = (begins_adding rest ≡ false) × ProductEnds (last_product s) rest

abbrev sum_of : SignedText × List SignedText → SumText
sum_of c = record { negative = c.0.0; first = c.0.1; further = c.1 }

abbrev parts_of : SumText → SignedText × List SignedText
parts_of s = ((s.negative, s.first), s.further)

abbrev make_sum : ℤ × Option Var → List (ℤ × Option Var) → Sum
make_sum p ps = record { terms = p ∷ ps }

further_is : (ds : List SignedText) → flat_map further_piece ds ≡ further_pieces ds
further_is [] = refl
further_is (d ∷ ds) = ap (λ (ps : List Piece). further_piece d ++ ps) (further_is ds)

further_said : (names : Names) (ds : List SignedText) (ps : List Place) → list_trees further_piece (signed_tree names) ds ps ≡ map (λ (p : SignedText). signed p.0 (product_tree names p.1)) ds
further_said names [] ps = refl
further_said names (d ∷ ds) ps = ap (λ (ts : List (ℤ × Option Var)). signed d.0 (product_tree names d.1) ∷ ts) (further_said names ds _)

last_signed : (c : SignedText) (ds : List SignedText) → last_of c.1 (map (λ (p : SignedText). p.1) ds) ≡ (last_of c ds).1
last_signed c [] = refl
last_signed c (d ∷ ds) = last_signed d ds

pub all_always : {C : Type 0} (cs : List C) → AllByRecursion (λ (c : C). Unit {0}) cs
all_always [] = tt
all_always (c ∷ cs) = (tt, all_always cs)

pub sum_guards : (n : ℕ) (names : Names) → Guards n (sum_at names n) sum_pieces Always (λ s ps. sum_tree names s) SumEnds
unfolding sum_at
sum_guards n names =
    guards_as sum_of parts_of
    (record {
      back = λ s. refl;
      spelled = λ c. append_assoc (minus_pieces c.0.0) (product_pieces c.0.1) (flat_map further_piece c.1) ∙ ap (λ (ps : List Piece). minus_pieces c.0.0 ++ (product_pieces c.0.1 ++ ps)) (further_is c.1);
      fine = λ c h. tt;
      unfine = λ s h. (tt, all_always s.further);
      said = λ c ps. ap (make_sum (signed c.0.0 (product_tree names c.0.1))) (further_said names c.1 _);
      stops = λ s rest h. (h.0, subst (λ (c : ProductText). ProductEnds c rest) (last_signed (s.negative, s.first) s.further) h.1);
    })
    (both_guards make_sum (more_joins further_goes_on) (example_of [] tt refl) (first_guards n names) (while_guards (either_test (next_test kind.Plus) (next_test kind.Minus)) further_goes_on (further_guards n names)))

abbrev pub sum_text : SumText
sum_text = record { negative = false; first = number []; further = [] }

pub sum_example : Example sum_pieces Always
sum_example = example_of sum_text tt refl

-- ---- signs

some_is : {A : Type 0} (x y : A) → Some x ≡ Some y → x ≡ y
some_is x y e = cc

none_is : {A : Type 0} {X : Type 0} (x : A) → None ≡ Some x → X
none_is x e = absurd (none-some x e)

-- The signs are those that a partial function of kinds gives, each at its own kind.
pub record AreSigns (of : TokenKind → Option Sign) : Type 0 where
  pub kinds : (k : TokenKind) (s : Sign) → of k ≡ Some s → k ≡ sign_kind s

sign_kinds : (k : TokenKind) (s : Sign) → sign_of k ≡ Some s → k ≡ sign_kind s
sign_kinds kind.Less s e = ap sign_kind (some_is sign.Less s e)
sign_kinds kind.LessEq s e = ap sign_kind (some_is sign.LessEq s e)
sign_kinds kind.Greater s e = ap sign_kind (some_is sign.Greater s e)
sign_kinds kind.GreaterEq s e = ap sign_kind (some_is sign.GreaterEq s e)
sign_kinds kind.EqualEqual s e = ap sign_kind (some_is sign.Equal s e)
sign_kinds kind.NotEqual s e = ap sign_kind (some_is sign.NotEqual s e)
sign_kinds k s e = none_is s e

pub all_signs : AreSigns sign_of
all_signs = record { kinds = sign_kinds }

init_sign_kinds : (k : TokenKind) (s : Sign) → init_sign_of k ≡ Some s → k ≡ sign_kind s
init_sign_kinds kind.NotEqual s e = none_is s e
init_sign_kinds k s e = sign_kinds k s e

pub init_signs : AreSigns init_sign_of
init_signs = record { kinds = init_sign_kinds }

-- each sign is one, and in an `init` each but one
pub every_sign : (s : Sign) → sign_of (sign_kind s) ≡ Some s
every_sign sign.Less = refl
every_sign s = refl

pub every_init_sign : (s : Sign) → s ≢ sign.NotEqual → init_sign_of (sign_kind s) ≡ Some s
every_init_sign sign.NotEqual h = absurd (h refl)
every_init_sign s h = refl

pub no_init_sign : (s : Sign) → init_sign_of (sign_kind s) ≡ Some s → s ≢ sign.NotEqual
no_init_sign s h e = none_is s (sym (ap (λ (t : Sign). init_sign_of (sign_kind t)) e) ∙ h)

sign_mark : (s : Sign) (t : List ℕ) → piece_of_kind (sign_kind s) t ≡ Mark (sign_kind s)
sign_mark sign.Less t = refl
sign_mark s t = refl

abbrev pub sign_piece : Sign → List Piece
sign_piece s = Mark (sign_kind s) ∷ []

abbrev pub SignIn : (TokenKind → Option Sign) → Sign → Type 0
SignIn of s = of (sign_kind s) ≡ Some s

sign_example : (of : TokenKind → Option Sign) → SignIn of sign.Less → Example sign_piece (SignIn of)
sign_example of less = example_of sign.Less less refl

abbrev head_kind : List Piece → TokenKind
head_kind [] = kind.Name
head_kind (p ∷ ps) = kind_of p

sign_stuck : (of : TokenKind → Option Sign) → AreSigns of → SignIn of sign.Less → (ws : List Word) (end : Place)
    → Keeps (sign_from of ws end) (Made sign_piece (SignIn of) (λ s ps. s) Any (record { words = ws; end = end })) (Stood sign_piece (SignIn of) Any (record { words = ws; end = end }))
sign_stuck of are less [] end = record { is = stood_here (record { words = []; end = end }) (Grammar end) (sign_example of less) refl (λ c ps tail fine stop alike e. none_alike ps _ _ alike e) }
sign_stuck of are less (w ∷ ws) end = by_sign (of w.kind) refl
  where
    by_sign : (o : Option Sign) → of w.kind ≡ o
        → Keeps {A = Sign × WordsAhead} (ok_or o (Grammar w.place) >>= λ s. Ok (s, record { words = ws; end = end })) (Made sign_piece (SignIn of) (λ s ps. s) Any (record { words = w ∷ ws; end = end })) (Stood sign_piece (SignIn of) Any (record { words = w ∷ ws; end = end }))
    by_sign (Some s) e = keeps_bind _ _ (λ r. r ≡ s) (λ p. ⊥) _ _ (record { is = refl })
        (λ r q. keeps_end _ _ _ (record {
          went = record {
            text = s;
            fine = ap of (sym (are.kinds w.kind s e)) ∙ e;
            front = w ∷ [];
            split = refl;
            ends = refl;
            spelled = ap (λ (k : TokenKind). piece_of_kind k w.text ∷ []) (are.kinds w.kind s e) ∙ ap (λ (p : Piece). p ∷ []) (sign_mark s w.text);
            only = λ c ps tail fine stop alike h.
                let same : w.kind ≡ sign_kind c = sym (kind_of_piece w.kind w.text) ∙ ap head_kind h in
                (some_is c s (sym fine ∙ ap of (sym same) ∙ e), ap (λ (qs : List Piece). drop 1 qs) h);
          };
          is = q;
        }))
        (λ p none. absurd none)
    by_sign None e = keeps_bind _ _ (λ r. ⊥) (λ e. e ≡ Grammar w.place) _ _ (record { is = refl })
        (λ r none. absurd none)
        (λ p q. stood_here (record { words = w ∷ ws; end = end }) p (sign_example of less) q (λ c ps tail fine stop alike h.
        let piece : piece_of_kind w.kind w.text ≡ Mark (sign_kind c) = first_alike _ (pieces ws) ps _ tail alike h in
        let same : w.kind ≡ sign_kind c = sym (kind_of_piece w.kind w.text) ∙ ap kind_of piece in
        none-some c (sym e ∙ ap of same ∙ fine)))

pub sign_guards : (n : ℕ) (of : TokenKind → Option Sign) → AreSigns of → SignIn of sign.Less → Guards n (sign_ahead of) sign_piece (SignIn of) (λ s ps. s) Any
unfolding sign_ahead
sign_guards n of are less = record { stuck = λ at room. sign_stuck of are less at.words at.end }

-- ---- relations

-- a sign doesn't carry a sum on
sign_ends : (s : Sign) (left : SumText) (rest : List Piece) → SumEnds left (Mark (sign_kind s) ∷ rest)
sign_ends sign.Less left rest = (refl, no_both (is_alone (last_product left)))
sign_ends s left rest = (refl, no_both (is_alone (last_product left)))

abbrev of_parts : Sum → Sign → Sum → Relation
of_parts left s right = record { left = left; sign = s; right = right }

relation_is : (of : TokenKind → Option Sign) (names : Names) (n : ℕ) (at : WordsAhead) → both (of_pair of_parts) (sum_at names n) (both pair_up (sign_ahead of) (sum_at names n)) at ≡ relation_at of names n at
unfolding relation_at
relation_is of names n at = three_is of_parts (sum_at names n) (sign_ahead of) (sum_at names n) at

abbrev pub RelationEnds : RelationText → List Piece → Type 0
RelationEnds r = SumEnds r.right

pub relation_guards : (n : ℕ) (names : Names) (of : TokenKind → Option Sign) → AreSigns of → SignIn of sign.Less → Guards n (relation_at of names n) relation_pieces (λ r. SignIn of r.sign) (λ r ps. relation_tree names r) RelationEnds
relation_guards n names of are less =
    guards_as (λ c. record { left = c.0; sign = c.1.0; right = c.1.1 }) (λ r. (r.left, (r.sign, r.right)))
    (record { back = λ r. refl; spelled = λ c. refl; fine = λ c h. h.1.0; unfine = λ r h. (tt, (h, tt)); said = λ c ps. refl; stops = λ r rest h. h })
    (guards_same _ (relation_is of names n)
    (both_guards (of_pair of_parts) left_joins (example_of (sign.Less, sum_text) (less, tt) refl) (sum_guards n names)
    (both_guards pair_up any_joins sum_example (sign_guards n of are less) (sum_guards n names))))
  where
    left_joins : Joins (λ (c : Sign × SumText). sign_piece c.0 ++ sum_pieces c.1) SumEnds (λ c. SumEnds c.1) (λ (c : SumText × (Sign × SumText)). SumEnds c.1.1)
    left_joins = record { first = λ c rest h. sign_ends c.1.0 c.0 (sum_pieces c.1.1 ++ rest); second = λ c rest h. h }

abbrev pub relation_text : RelationText
relation_text = record { left = sum_text; sign = sign.Less; right = sum_text }

pub relation_example : (of : TokenKind → Option Sign) → SignIn of sign.Less → Example relation_pieces (λ r. SignIn of r.sign)
relation_example of less = example_of relation_text less refl

-- what may follow any sum
abbrev pub NoSum : List Piece → Type 0
NoSum rest = (begins_adding rest ≡ false) × Not kind.Star rest

pub no_sum : (s : SumText) (rest : List Piece) → NoSum rest → SumEnds s rest
no_sum s rest h = (h.0, ap (λ (b : Bool). is_alone (last_product s) && b) h.1 ∙ no_both (is_alone (last_product s)))

-- a relation begins with `-`, a number or a name
pub relation_begins : (k : TokenKind) → is_kind kind.Minus k ≡ false → is_kind kind.Number k ≡ false → is_kind kind.Name k ≡ false → (r : RelationText) (rest : List Piece) → Not k (relation_pieces r ++ rest)
relation_begins k a b c r rest = subst (Not k) (sym (append_assoc (sum_pieces r.left) (Mark (sign_kind r.sign) ∷ sum_pieces r.right) rest)) (sum_begins r.left.negative)
  where
    sum_begins : (negative : Bool) → Not k ((minus_pieces negative ++ (product_pieces r.left.first ++ further_pieces r.left.further)) ++ (Mark (sign_kind r.sign) ∷ (sum_pieces r.right ++ rest)))
    sum_begins true = a
    sum_begins false = subst (Not k) (sym (append_assoc (product_pieces r.left.first) (further_pieces r.left.further) (Mark (sign_kind r.sign) ∷ (sum_pieces r.right ++ rest)))) (product_begins k b c r.left.first _)
