-- The laws of declarations, whose rows aren't counted.
use Rattle.std.proofs.Common.{◌≡◌, ◌≢◌, ℕ, suc, ℤ, Bool, true, false, ◌⊎◌, inl, inr, List, [], ◌∷◌, ◌++◌, Option, Some, None, refl, ap, sym, arith}
use Rattle.std.specs.List.{flat_map}
use Rattle.std.proofs.lemmas.List.Elements.{All-from_recursion, All-weaker, recursion_from_All}
use Rattle.ps_token.specs.declared.place.Place.{Place}
use Rattle.ps_token.specs.declared.token_kind.TokenKind.TheVariants as kind
use Rattle.ps_tree.specs.declared.relation.Relation.{Relation}
use Rattle.ps_tree.specs.declared.relation.Sign.TheVariants as sign
use Rattle.ps_grammar.specs.Declarations.{Declared, names_of}
use Rattle.ps_grammar.specs.Grammar.{RelationText, ValueText, ItemText, global, local, init}
use Rattle.ps_grammar.specs.Numbers.{number_value, signed}
use Rattle.ps_grammar.specs.Spelling.{Piece, NumberPiece, NamePiece, Mark, minus_pieces, relation_pieces, value_pieces, more_relations, item_pieces}
use Rattle.ps_grammar.specs.Trees.{relation_tree, declared_value, with_item}
use Rattle.ps_parse.specs.Inner.Items.{name_at, signed_number_ahead, declared_value_ahead, global_at, local_at, init_at, item_at}
use Rattle.ps_parse.specs.Inner.Reading.{next_word, after_word}
use Rattle.ps_parse.specs.Inner.Sums.{init_sign_of, relation_at}
use Rattle.ps_parse.specs.Reads.{HasInitSigns}
use Rattle.ps_parse.proofs.Steps.{begins_piece, Always, next_test, bind_bind}
use Rattle.ps_parse.proofs.Guards.{Any, Then, Guards, Example, example_of, name_sort, number_sort, word_guards}
use Rattle.ps_parse.proofs.GuardSteps.{guards_same, guards_as, guards_so, mapped_guards, Joins, any_joins, both_guards, both_guards_more, after_guards, after_guards_more, OfSort, choice_guards}
use Rattle.ps_parse.proofs.GuardLoops.{GoesOn, Ends, while_guards}
use Rattle.ps_parse.proofs.SumGuards.{name_piece, name_example, number_example, opt_pieces, opt_tree, OptEnds, opt_guards, init_signs, every_init_sign, no_init_sign, SignIn, relation_guards, relation_example, NoSum, no_sum}
use Rattle.ps_parse.proofs.CondGuards.{listed}
use Rattle.ps_parse.proofs.StmtGuards.{ended_guards}

-- ---- values

abbrev number_pieces : ValueText → List Piece
number_pieces v = minus_pieces v.negative ++ NumberPiece v.digits ∷ []

abbrev value_number : ValueText → ℤ
value_number v = (signed v.negative (number_value v.digits, None)).0

minus_sort : (negative : Bool) (digits : List ℕ) → OfSort (begins_piece kind.Minus) true number_pieces Any (λ d. record { negative = true; digits = d }) Always (record { negative = negative; digits = digits }) ⊎ OfSort (begins_piece kind.Minus) false number_pieces Any (λ d. record { negative = false; digits = d }) Always (record { negative = negative; digits = digits })
minus_sort true digits = inl (record { text = digits; same = refl; fine = tt; tells = λ rest h. refl })
minus_sort false digits = inr (record { text = digits; same = refl; fine = tt; tells = λ rest h. refl })

number_guards : (n : ℕ) → Guards n signed_number_ahead number_pieces Always (λ v ps. value_number v) Any
unfolding signed_number_ahead after_word
number_guards n =
    choice_guards number_pieces Always (λ v ps. value_number v) Any (next_test kind.Minus) (λ d. record { negative = true; digits = d }) (λ d h. tt) (λ d. record { negative = false; digits = d }) (λ d h. tt)
    (λ v ok. minus_sort v.negative v.digits) (λ d rest h. tt) (λ d rest h. tt)
    (guards_same _ (λ at. sym (bind_bind (next_word kind.Minus at) _ _)) (after_guards kind.Minus (λ u. refl) number_example (word_guards n kind.Number NumberPiece (λ t. t) number_sort (λ d. (signed true (number_value d, None)).0))))
    (word_guards n kind.Number NumberPiece (λ t. t) number_sort number_value)

value_spelled : (v : Option ValueText) → opt_pieces kind.Equal number_pieces v ≡ value_pieces v
value_spelled None = refl
value_spelled (Some v) = refl

value_said : (v : Option ValueText) (ps : List Place) → opt_tree (λ w qs. value_number w) v ps ≡ declared_value v
value_said None ps = refl
value_said (Some v) ps = refl

pub value_guards : (n : ℕ) → Guards n declared_value_ahead value_pieces Always (λ v ps. declared_value v) (OptEnds kind.Equal)
unfolding declared_value_ahead
value_guards n =
    guards_as (λ c. c) (λ c. c)
    (record { back = λ c. refl; spelled = value_spelled; fine = λ c h. tt; unfine = λ c h. tt; said = value_said; stops = λ c rest h. h })
    (opt_guards kind.Equal (λ u. refl) (example_of (record { negative = false; digits = [] }) tt refl) (number_guards n))

-- ---- declarations

-- the same declarations with so many rows
abbrev pub with_rows : ℕ → Declared → Declared
with_rows rows d = record { globals = d.globals; locals = d.locals; inits = d.inits; rows = rows }

-- what is declared after an item, its rows not counted
abbrev pub declared_tree : Declared → ItemText → List Place → Declared
declared_tree d i ps = with_rows d.rows (with_item d i)

abbrev pub with_global : Declared → List ℕ → Option ℤ → Declared
with_global d x v = record { globals = d.globals ++ record { name = x; value = v } ∷ []; locals = d.locals; inits = d.inits; rows = d.rows }

abbrev with_local : Declared → List ℕ → Declared
with_local d x = record { globals = d.globals; locals = d.locals ++ x ∷ []; inits = d.inits; rows = d.rows }

abbrev with_inits : Declared → Relation → List Relation → Declared
with_inits d r rs = record { globals = d.globals; locals = d.locals; inits = d.inits ++ r ∷ rs; rows = d.rows }

pub value_ends : (v : Option ValueText) (rest : List Piece) → OptEnds kind.Equal v (Mark kind.Semicolon ∷ rest)
value_ends None rest = refl
value_ends (Some v) rest = tt

name_guards : (n : ℕ) → Guards n name_at name_piece Always (λ x ps. x) Any
name_guards n = word_guards n kind.Name NamePiece (λ t. t) name_sort (λ x. x)

global_guards : (n : ℕ) (d : Declared) → Guards n (global_at d) (λ (c : List ℕ × Option ValueText). item_pieces (global c.0 c.1)) Always (λ c. declared_tree d (global c.0 c.1)) Any
unfolding global_at
global_guards n d =
    guards_so Always Any (λ c h. tt) (λ c h. (tt, tt)) (λ c rest h. h)
    (both_guards (with_global d) any_joins (example_of None tt refl) (after_guards kind.Global (λ u. refl) name_example (name_guards n)) (ended_guards value_ends (value_guards n)))

local_guards : (n : ℕ) (d : Declared) → Guards n (local_at d) (λ x. item_pieces (local x)) Always (λ x. declared_tree d (local x)) Any
unfolding local_at
local_guards n d =
    mapped_guards (with_local d) (after_guards kind.Local (λ u. refl) (example_of [] tt refl) (ended_guards (λ c rest. tt) (name_guards n)))

abbrev InitOk : RelationText → Type 0
InitOk r = SignIn init_sign_of r.sign

init_example : Example relation_pieces InitOk
init_example = relation_example init_sign_of refl

init_relation : (n : ℕ) (d : Declared) → Guards n (relation_at init_sign_of (names_of d) n) relation_pieces InitOk (λ r ps. relation_tree (names_of d) r) (Then NoSum)
init_relation n d = guards_so InitOk (Then NoSum) (λ r h. h) (λ r h. h) (λ r rest h. no_sum r.right rest h) (relation_guards n (names_of d) init_sign_of init_signs refl)

abbrev and_pieces : RelationText → List Piece
and_pieces r = Mark kind.And ∷ relation_pieces r

more_is : (rs : List RelationText) → flat_map and_pieces rs ≡ more_relations rs
more_is [] = refl
more_is (r ∷ rs) = ap (λ (ps : List Piece). and_pieces r ++ ps) (more_is rs)

relations_go_on : GoesOn (begins_piece kind.And) and_pieces (Then NoSum)
relations_go_on = record { starts = λ r rest. refl; joins = λ r s rest. (refl, refl); some = λ r. omega arith }

relations_end : (rs : List RelationText) (rest : List Piece) → Ends (begins_piece kind.And) (Then NoSum) rs (Mark kind.Semicolon ∷ rest)
relations_end [] rest = refl
relations_end (r ∷ rs) rest = (refl, (refl, refl))

relations_join : (rs : List RelationText) (rest : List Piece) → NoSum ((flat_map and_pieces rs ++ Mark kind.Semicolon ∷ []) ++ rest)
relations_join [] rest = (refl, refl)
relations_join (r ∷ rs) rest = (refl, refl)

init_joins : Joins {C = RelationText} (λ rs. flat_map and_pieces rs ++ Mark kind.Semicolon ∷ []) (Then NoSum) Any Any
init_joins = record { first = λ c rest h. relations_join c.1 rest; second = λ c rest h. tt }

abbrev pub Allowed : RelationText → Type 0
Allowed r = r.sign ≢ sign.NotEqual

init_guards : (n : ℕ) (d : Declared) → Guards (suc n) (init_at d n) (λ (c : RelationText × List RelationText). item_pieces (init c.0 c.1)) (λ c. HasInitSigns (init c.0 c.1)) (λ c. declared_tree d (init c.0 c.1)) Any
unfolding init_at
init_guards n d =
    guards_as (λ c. c) (λ c. c)
    (record {
      back = λ c. refl;
      spelled = λ c. ap (λ (ps : List Piece). Mark kind.Init ∷ (relation_pieces c.0 ++ (ps ++ Mark kind.Semicolon ∷ []))) (more_is c.1);
      fine = λ c h. All-weaker InitOk Allowed (λ r f. no_init_sign r.sign f) (c.0 ∷ c.1) (All-from_recursion InitOk (c.0 ∷ c.1) h);
      unfine = λ c h. recursion_from_All InitOk (c.0 ∷ c.1) (All-weaker Allowed InitOk (λ r f. every_init_sign r.sign f) (c.0 ∷ c.1) h);
      said = λ c ps. ap (with_inits d (relation_tree (names_of d) c.0)) (listed and_pieces (relation_tree (names_of d)) c.1 _);
      stops = λ c rest h. h;
    })
    (both_guards_more (with_inits d) init_joins (λ c. omega arith) (example_of [] tt refl) (after_guards_more kind.Init (λ u. refl) init_example (init_relation n d))
    (ended_guards relations_end (while_guards (next_test kind.And) relations_go_on (after_guards kind.And (λ u. refl) init_example (init_relation n d)))))

-- ---- items

abbrev NotGlobal : ItemText → Type 0
NotGlobal (global x v) = ⊥
NotGlobal i = HasInitSigns i

not_global : (i : ItemText) → NotGlobal i → HasInitSigns i
not_global (global x v) h = tt
not_global (local x) h = h
not_global (init r rs) h = h

global_sort : (i : ItemText) → HasInitSigns i → OfSort (begins_piece kind.Global) true item_pieces Any (λ (c : List ℕ × Option ValueText). global c.0 c.1) Always i ⊎ OfSort (begins_piece kind.Global) false item_pieces Any (λ (j : ItemText). j) NotGlobal i
global_sort (global x v) ok = inl (record { text = (x, v); same = refl; fine = tt; tells = λ rest h. refl })
global_sort (local x) ok = inr (record { text = local x; same = refl; fine = ok; tells = λ rest h. refl })
global_sort (init r rs) ok = inr (record { text = init r rs; same = refl; fine = ok; tells = λ rest h. refl })

local_sort : (i : ItemText) → NotGlobal i → OfSort (begins_piece kind.Local) true item_pieces Any local Always i ⊎ OfSort (begins_piece kind.Local) false item_pieces Any (λ (c : RelationText × List RelationText). init c.0 c.1) (λ c. HasInitSigns (init c.0 c.1)) i
local_sort (global x v) ok = absurd ok
local_sort (local x) ok = inl (record { text = x; same = refl; fine = tt; tells = λ rest h. refl })
local_sort (init r rs) ok = inr (record { text = (r, rs); same = refl; fine = ok; tells = λ rest h. refl })

pub item_guards : (n : ℕ) (d : Declared) → Guards (suc n) (item_at d n) item_pieces HasInitSigns (declared_tree d) Any
unfolding item_at
item_guards n d =
    choice_guards item_pieces HasInitSigns (declared_tree d) Any (next_test kind.Global) (λ c. global c.0 c.1) (λ c h. tt) (λ i. i) not_global global_sort (λ c rest h. tt) (λ i rest h. tt) (global_guards (suc n) d)
    (choice_guards item_pieces NotGlobal (declared_tree d) Any (next_test kind.Local) local (λ c h. tt) (λ c. init c.0 c.1) (λ c h. h) local_sort (λ x rest h. tt) (λ c rest h. tt) (local_guards (suc n) d) (init_guards n d))
