-- The laws of conditions and tests.
use Rattle.std.proofs.Common.{◌≡◌, ℕ, zero, suc, true, false, ◌⊎◌, inl, inr, List, [], ◌∷◌, ◌++◌, map, drop, refl, sym, ap, subst, ◌∙◌, arith, append_assoc}
use Rattle.std.specs.List.{flat_map}
use Rattle.std.proofs.lemmas.List.{append-nil}
use Rattle.ps_token.specs.declared.place.Place.{Place}
use Rattle.ps_token.specs.declared.token_kind.TokenKind.{TokenKind}
use Rattle.ps_token.specs.declared.token_kind.TokenKind.TheVariants as kind
use Rattle.ps_tree.specs.declared.cond.Cond.{Cond}
use Rattle.ps_tree.specs.declared.cond.Cond.TheVariants as cond
use Rattle.ps_tree.specs.declared.cond.Test.TheVariants as test
use Rattle.ps_grammar.specs.Grammar.{CondText, last_conj, or_else, ConjText, last_unary, and_also, UnaryText, negation, in_parens, relation, TestText, either, condition}
use Rattle.ps_grammar.specs.Names.{Names}
use Rattle.ps_grammar.specs.Spelling.{Piece, Mark, relation_pieces, cond_pieces, conj_pieces, unary_pieces, test_pieces}
use Rattle.ps_grammar.specs.Trees.{relation_tree, gathered, cond_members, conj_members, unary_tree, cond_tree, test_tree}
use Rattle.ps_parse.specs.Inner.Conds.{one_or_all, members_at, conj_with, cond_with, unary_at, cond_at, test_at, parens_at}
use Rattle.ps_parse.specs.Inner.Reading.{ReadWords, after_word}
use Rattle.ps_parse.specs.Inner.Sums.{sign_of, relation_at}
use Rattle.ps_parse.proofs.Steps.{same_kind, begins_piece, Not, Always, next_test, IsMark, mapped}
use Rattle.ps_parse.proofs.Guards.{Any, Then, Guards, none_guards, Example, example_of}
use Rattle.ps_parse.proofs.GuardSteps.{guards_as, guards_so, mapped_guards, both_guards, after_guards, after_guards_more, alone_guards, closed_guards, OfSort, choice_guards}
use Rattle.ps_parse.proofs.GuardLoops.{GoesOn, Ends, list_trees, cons, more_joins, while_guards}
use Rattle.ps_parse.proofs.SumGuards.{all_always, all_signs, every_sign, relation_guards, relation_text, NoSum, no_sum, relation_begins}

-- ---- members with a word between them

abbrev members_pieces : {C : Type 0} → TokenKind → (C → List Piece) → C × List C → List Piece
members_pieces between spell c = spell c.0 ++ flat_map (λ d. Mark between ∷ spell d) c.1

abbrev members_tree : {C : Type 0} → (List Cond → Cond) → (C → Cond) → C × List C → Cond
members_tree all tree c = one_or_all all (tree c.0) (map tree c.1)

pub listed : {C A : Type 0} (spell : C → List Piece) (tree : C → A) (cs : List C) (ps : List Place) → list_trees spell (λ c qs. tree c) cs ps ≡ map tree cs
listed spell tree [] ps = refl
listed {A = A} spell tree (c ∷ cs) ps = ap (λ (zs : List A). tree c ∷ zs) (listed spell tree cs (drop _ ps))

members_guards : {C : Type 0} (n : ℕ) (read : ReadWords Cond) (spell : C → List Piece) (tree : C → Cond) (follows : C → List Piece → Type 0) (all : List Cond → Cond) (between : TokenKind)
    → IsMark between → ((c : C) (rest : List Piece) → follows c (Mark between ∷ rest)) → Example spell Always → Guards n read spell Always (λ c ps. tree c) follows
    → Guards n (members_at all between read n) (members_pieces between spell) Always (λ c ps. members_tree all tree c) (λ c. Ends (begins_piece between) follows (cons c))
unfolding members_at
members_guards {C = C} n read spell tree follows all between marked joins example g =
    guards_as (λ c. c) (λ c. c)
    (record { back = λ c. refl; spelled = λ c. refl; fine = λ c h. tt; unfine = λ c h. (tt, all_always c.1); said = λ c ps. ap (one_or_all all (tree c.0)) (listed (λ d. Mark between ∷ spell d) tree c.1 _); stops = λ c rest h. h })
    (both_guards (one_or_all all) (more_joins on) (example_of [] tt refl) g (while_guards (next_test between) on (after_guards between marked example g)))
  where
    on : GoesOn (begins_piece between) (λ (d : C). Mark between ∷ spell d) follows
    on = record { starts = λ c rest. same_kind between between refl; joins = λ c d rest. joins c (spell d ++ rest); some = λ c. omega arith }

gathered_is : (all : List Cond → Cond) (c : Cond) (cs : List Cond) → one_or_all all c cs ≡ gathered all (c ∷ cs)
gathered_is all c [] = refl
gathered_is all c (d ∷ ds) = refl

-- ---- chains of members

-- a first member and further ones: the last one, or one before the others
abbrev chain : {C L : Type 0} → (C → L) → (C → L → L) → C → List C → L
chain last more u [] = last u
chain last more u (v ∷ vs) = more u (chain last more v vs)

-- A chain has the spelling and the members that its members have.
record Chains {C L : Type 0} (between : TokenKind) (last : C → L) (more : C → L → L) (spell : C → List Piece) (spells : L → List Piece) (tree : C → Cond) (members : L → List Cond) : Type 0 where
  pub last_spelled : (u : C) → spells (last u) ≡ spell u
  pub more_spelled : (u : C) (l : L) → spells (more u l) ≡ spell u ++ Mark between ∷ spells l
  pub last_is : (u : C) → members (last u) ≡ tree u ∷ []
  pub more_is : (u : C) (l : L) → members (more u l) ≡ tree u ∷ members l

chain_guards : {C L : Type 0} (n : ℕ) (read : ReadWords Cond) (spell : C → List Piece) (tree : C → Cond) (F : List Piece → Type 0) (all : List Cond → Cond) (between : TokenKind)
    (last : C → L) (more : C → L → L) (parts : L → C × List C) (spells : L → List Piece) (members : L → List Cond)
    → ((l : L) → chain last more (parts l).0 (parts l).1 ≡ l) → Chains between last more spell spells tree members
    → IsMark between → ((rest : List Piece) → F (Mark between ∷ rest)) → Example spell Always → Guards n read spell Always (λ c ps. tree c) (Then F)
    → Guards n (members_at all between read n) spells Always (λ l ps. gathered all (members l)) (Then (λ rest. (begins_piece between rest ≡ false) × F rest))
chain_guards {C = C} n read spell tree F all between last more parts spells members back same marked joins example g =
    guards_as (λ c. chain last more c.0 c.1) parts
    (record {
      back = back;
      spelled = λ c. spelled c.0 c.1;
      fine = λ c h. tt;
      unfine = λ l h. tt;
      said = λ c ps. gathered_is all (tree c.0) (map tree c.1) ∙ ap (gathered all) (are c.0 c.1);
      stops = λ l rest h. h;
    })
    (members_guards n read spell tree (Then F) all between marked (λ c rest. joins rest) example g)
  where
    spelled : (u : C) (us : List C) → members_pieces between spell (u, us) ≡ spells (chain last more u us)
    spelled u [] = append-nil (spell u) ∙ sym (same.last_spelled u)
    spelled u (v ∷ vs) = ap (λ (ps : List Piece). spell u ++ (Mark between ∷ ps)) (spelled v vs) ∙ sym (same.more_spelled u (chain last more v vs))

    are : (u : C) (us : List C) → tree u ∷ map tree us ≡ members (chain last more u us)
    are u [] = sym (same.last_is u)
    are u (v ∷ vs) = ap (λ (cs : List Cond). tree u ∷ cs) (are v vs) ∙ sym (same.more_is u (chain last more v vs))

-- ---- `&&` and `||`

conj_parts : ConjText → UnaryText × List UnaryText
conj_parts (last_unary u) = (u, [])
conj_parts (and_also u rest) = (u, (conj_parts rest).0 ∷ (conj_parts rest).1)

conj_back : (c : ConjText) → chain last_unary and_also (conj_parts c).0 (conj_parts c).1 ≡ c
unfolding conj_parts
conj_back (last_unary u) = refl
conj_back (and_also u rest) = ap (and_also u) (conj_back rest)

cond_parts : CondText → ConjText × List ConjText
cond_parts (last_conj u) = (u, [])
cond_parts (or_else u rest) = (u, (cond_parts rest).0 ∷ (cond_parts rest).1)

cond_back : (c : CondText) → chain last_conj or_else (cond_parts c).0 (cond_parts c).1 ≡ c
unfolding cond_parts
cond_back (last_conj u) = refl
cond_back (or_else u rest) = ap (or_else u) (cond_back rest)

abbrev pub ConjEnds : List Piece → Type 0
ConjEnds rest = (begins_piece kind.And rest ≡ false) × NoSum rest

abbrev pub CondEnds : List Piece → Type 0
CondEnds rest = (begins_piece kind.Or rest ≡ false) × ConjEnds rest

unary_example : Example unary_pieces Always
unary_example = example_of (relation relation_text) tt refl

conj_example : Example conj_pieces Always
conj_example = example_of (last_unary (relation relation_text)) tt refl

abbrev pub cond_text : CondText
cond_text = last_conj (last_unary (relation relation_text))

cond_example : Example cond_pieces Always
cond_example = example_of cond_text tt refl

abbrev UnaryGuards : ℕ → Names → ReadWords Cond → Type 0
UnaryGuards n names read = Guards n read unary_pieces Always (λ u ps. unary_tree names u) (Then NoSum)

conj_guards : (n : ℕ) (names : Names) (read : ReadWords Cond) → UnaryGuards n names read → Guards n (conj_with read n) conj_pieces Always (λ c ps. gathered cond.And (conj_members names c)) (Then ConjEnds)
unfolding conj_with
conj_guards n names read g =
    chain_guards n read unary_pieces (unary_tree names) NoSum cond.And kind.And last_unary and_also conj_parts conj_pieces (conj_members names) conj_back
    (record { last_spelled = λ u. refl; more_spelled = λ u l. refl; last_is = λ u. refl; more_is = λ u l. refl })
    (λ u. refl) (λ rest. (refl, refl)) unary_example g

cond_with_guards : (n : ℕ) (names : Names) (read : ReadWords Cond) → UnaryGuards n names read → Guards n (cond_with read n) cond_pieces Always (λ c ps. cond_tree names c) (Then CondEnds)
unfolding cond_with
cond_with_guards n names read g =
    chain_guards n (conj_with read n) conj_pieces (λ c. gathered cond.And (conj_members names c)) ConjEnds cond.Or kind.Or last_conj or_else cond_parts cond_pieces (cond_members names) cond_back
    (record { last_spelled = λ u. refl; more_spelled = λ u l. refl; last_is = λ u. refl; more_is = λ u l. refl })
    (λ u. refl) (λ rest. (refl, (refl, refl))) conj_example (conj_guards n names read g)

rel_guards : (n : ℕ) (names : Names) → Guards n (mapped cond.Rel (relation_at sign_of names n)) relation_pieces Always (λ r ps. cond.Rel (relation_tree names r)) (Then NoSum)
rel_guards n names =
    guards_so Always (Then NoSum) (λ r h. tt) (λ r h. every_sign r.sign) (λ r rest h. no_sum r.right rest h)
    (mapped_guards cond.Rel (relation_guards n names sign_of all_signs refl))

abbrev OtherThanNot : UnaryText → Type 0
OtherThanNot (negation u) = ⊥
OtherThanNot u = Unit {0}

not_sort : (u : UnaryText) → Always u → OfSort (begins_piece kind.Not) true unary_pieces (Then NoSum) negation Always u ⊎ OfSort (begins_piece kind.Not) false unary_pieces (Then NoSum) (λ (v : UnaryText). v) OtherThanNot u
not_sort (negation u) ok = inl (record { text = u; same = refl; fine = tt; tells = λ rest h. refl })
not_sort (in_parens c) ok = inr (record { text = in_parens c; same = refl; fine = tt; tells = λ rest h. refl })
not_sort (relation r) ok = inr (record { text = relation r; same = refl; fine = tt; tells = λ rest h. relation_begins kind.Not refl refl refl r rest })

parens_sort : (u : UnaryText) → OtherThanNot u → OfSort (begins_piece kind.OpenParen) true unary_pieces (Then NoSum) in_parens Always u ⊎ OfSort (begins_piece kind.OpenParen) false unary_pieces (Then NoSum) relation Always u
parens_sort (negation u) ok = absurd ok
parens_sort (in_parens c) ok = inl (record { text = c; same = refl; fine = tt; tells = λ rest h. refl })
parens_sort (relation r) ok = inr (record { text = r; same = refl; fine = tt; tells = λ rest h. relation_begins kind.OpenParen refl refl refl r rest })

more_guards : (n : ℕ) (names : Names) → UnaryGuards n names (unary_at names n) → UnaryGuards (suc n) names (unary_at names (suc n))
unfolding unary_at
more_guards n names g =
    choice_guards unary_pieces Always (λ u ps. unary_tree names u) (Then NoSum) (next_test kind.Not) negation (λ u h. tt) (λ u. u) (λ u h. tt) not_sort (λ u rest h. h) (λ u rest h. h)
    (mapped_guards cond.Not (after_guards_more kind.Not (λ u. refl) unary_example g))
    (choice_guards unary_pieces OtherThanNot (λ u ps. unary_tree names u) (Then NoSum) (next_test kind.OpenParen) in_parens (λ c h. tt) relation (λ r h. tt) parens_sort (λ c rest h. tt) (λ r rest h. h)
    (closed_guards kind.CloseParen (λ u. refl) (λ c rest. (refl, (refl, (refl, refl)))) (after_guards_more kind.OpenParen (λ u. refl) cond_example (cond_with_guards n names _ g)))
    (rel_guards (suc n) names))

unary_guards : (n : ℕ) (names : Names) → UnaryGuards n names (unary_at names n)
unary_guards zero names = none_guards _ _ _ _ _
unary_guards (suc n) names = more_guards n names (unary_guards n names)

pub cond_guards : (n : ℕ) (names : Names) → Guards n (cond_at names n) cond_pieces Always (λ c ps. cond_tree names c) (Then CondEnds)
unfolding cond_at
cond_guards n names = cond_with_guards n names (unary_at names n) (unary_guards n names)

-- ---- tests

-- a test without its parentheses
abbrev inner_pieces : TestText → List Piece
inner_pieces either = Mark kind.Star ∷ []
inner_pieces (condition c) = cond_pieces c

unary_begins : (u : UnaryText) (rest : List Piece) → Not kind.Star (unary_pieces u ++ rest)
unary_begins (negation u) rest = refl
unary_begins (in_parens c) rest = refl
unary_begins (relation r) rest = relation_begins kind.Star refl refl refl r rest

conj_begins : (c : ConjText) (rest : List Piece) → Not kind.Star (conj_pieces c ++ rest)
conj_begins (last_unary u) rest = unary_begins u rest
conj_begins (and_also u c) rest = subst (Not kind.Star) (sym (append_assoc (unary_pieces u) (Mark kind.And ∷ conj_pieces c) rest)) (unary_begins u _)

cond_begins : (c : CondText) (rest : List Piece) → Not kind.Star (cond_pieces c ++ rest)
cond_begins (last_conj c) rest = conj_begins c rest
cond_begins (or_else c d) rest = subst (Not kind.Star) (sym (append_assoc (conj_pieces c) (Mark kind.Or ∷ cond_pieces d) rest)) (conj_begins c _)

inner_sort : (t : TestText) → Always t → OfSort (begins_piece kind.Star) true inner_pieces (Then CondEnds) (λ (u : Unit {0}). either) Always t ⊎ OfSort (begins_piece kind.Star) false inner_pieces (Then CondEnds) condition Always t
inner_sort either ok = inl (record { text = tt; same = refl; fine = tt; tells = λ rest h. refl })
inner_sort (condition c) ok = inr (record { text = c; same = refl; fine = tt; tells = λ rest h. cond_begins c rest })

inner_guards : (n : ℕ) (names : Names) → Guards n (test_at names n) inner_pieces Always (λ t ps. test_tree names t) (Then CondEnds)
unfolding test_at
inner_guards n names =
    choice_guards inner_pieces Always (λ t ps. test_tree names t) (Then CondEnds) (next_test kind.Star) (λ u. either) (λ u h. tt) condition (λ c h. tt) inner_sort (λ u rest h. tt) (λ c rest h. h)
    (alone_guards n kind.Star (λ u. refl) test.Star)
    (mapped_guards test.Cond (cond_guards n names))

test_spelled : (t : TestText) → Mark kind.OpenParen ∷ (inner_pieces t ++ Mark kind.CloseParen ∷ []) ≡ test_pieces t
test_spelled either = refl
test_spelled (condition c) = refl

pub parens_guards : (n : ℕ) (names : Names) → Guards n (parens_at names n) test_pieces Always (λ t ps. test_tree names t) Any
unfolding parens_at after_word
parens_guards n names =
    guards_as (λ c. c) (λ c. c)
    (record { back = λ c. refl; spelled = test_spelled; fine = λ c h. h; unfine = λ c h. h; said = λ c ps. refl; stops = λ c rest h. h })
    (after_guards kind.OpenParen (λ u. refl) (example_of either tt refl) (closed_guards kind.CloseParen (λ u. refl) (λ c rest. (refl, (refl, (refl, refl)))) (inner_guards n names)))

pub test_example : Example test_pieces Always
test_example = example_of either tt refl
