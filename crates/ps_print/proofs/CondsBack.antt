-- The text that is printed of the condition of a text is read as the same condition.
use Rattle.std.proofs.Common.{◌≡◌, ℕ, ◌-◌, ◌≤◌, List, [], ◌∷◌, refl, sym, ◌∙◌, ap, ap₂, subst, arith}
use denote.Hole.Carrier.{hidden}
use Rattle.ps_token.specs.declared.token_kind.TokenKind.TheVariants as kind
use Rattle.ps_tree.specs.declared.cond.Cond.{Cond, Rel, Not', And', Or', Row_of-Cond, end_of-Cond, more_of-Cond, items-the_row-Cond}
use Rattle.ps_tree.specs.declared.cond.Cond.TheVariants as cond
use Rattle.ps_tree.specs.declared.cond.Cond.TheBlock.{hidden-the_row-Cond-0, hidden-the_row-Cond-1, items_hidden-the_row-Cond-1}
use Rattle.ps_tree.specs.declared.cond.Test.{Test}
use Rattle.ps_tree.specs.declared.cond.Test.TheVariants as test
use Rattle.ps_grammar.specs.Names.{Names}
use Rattle.ps_print.specs.Canonical.{cond_of_members, cond_text, conj_of_members, conj_text, falsehood_text, test_text, truth_text, unary_text}
use Rattle.ps_grammar.specs.Fits.{CondFits, ConjFits, TestFits, UnaryFits}
use Rattle.ps_grammar.specs.Grammar.{CondText, last_conj, or_else, ConjText, last_unary, and_also, UnaryText, negation, in_parens, relation, TestText, either, condition}
use Rattle.ps_grammar.specs.Spelling.{Mark, cond_pieces, conj_pieces, test_pieces, unary_pieces}
use Rattle.ps_grammar.specs.Trees.{cond_members, cond_tree, conj_members, gathered, test_tree, unary_tree}
use Rattle.ps_grammar.specs.Texts.{ArePieces}
use Rattle.ps_grammar.proofs.Texts.{joined, left, right}
use Rattle.ps_print.proofs.SumsBack.{relation_good}

-- ---- more levels fit as well

fewer : (a b : ℕ) → a ≤ b → a - 1 ≤ b - 1
fewer a b h = omega (arith, h)

mutual
  pub cond_more : (names : Names) (a b : ℕ) → a ≤ b → (c : CondText) → CondFits names a c → CondFits names b c
  cond_more names a b h (last_conj c) fit = conj_more names a b h c fit
  cond_more names a b h (or_else c rest) fit = (conj_more names a b h c fit.0, cond_more names a b h rest fit.1)

  pub conj_more : (names : Names) (a b : ℕ) → a ≤ b → (c : ConjText) → ConjFits names a c → ConjFits names b c
  conj_more names a b h (last_unary u) fit = unary_more names a b h u fit
  conj_more names a b h (and_also u rest) fit = (unary_more names a b h u fit.0, conj_more names a b h rest fit.1)

  pub unary_more : (names : Names) (a b : ℕ) → a ≤ b → (u : UnaryText) → UnaryFits names a u → UnaryFits names b u
  unary_more names a b h (negation u) fit = (omega (arith, h, fit.0), unary_more names (a - 1) (b - 1) (fewer a b h) u fit.1)
  unary_more names a b h (in_parens c) fit = (omega (arith, h, fit.0), cond_more names (a - 1) (b - 1) (fewer a b h) c fit.1)
  unary_more names a b h (relation r) fit = fit

-- ---- what is printed of a condition fits, is spelled from words, and is read as the condition

pub record GoodCond (names : Names) (n : ℕ) (c : Cond) : Type 0 where
  pub fits : CondFits names n (cond_text names c)
  pub spelled : ArePieces (cond_pieces (cond_text names c))
  pub back : cond_tree names (cond_text names c) ≡ c

pub record GoodConj (names : Names) (n : ℕ) (c : Cond) : Type 0 where
  pub fits : ConjFits names n (conj_text names c)
  pub spelled : ArePieces (conj_pieces (conj_text names c))
  pub back : gathered cond.And (conj_members names (conj_text names c)) ≡ c

pub record GoodUnary (names : Names) (n : ℕ) (c : Cond) : Type 0 where
  pub fits : UnaryFits names n (unary_text names c)
  pub spelled : ArePieces (unary_pieces (unary_text names c))
  pub back : unary_tree names (unary_text names c) ≡ c

-- in parentheses
enclosed : (names : Names) (n : ℕ) (c : Cond) → 1 ≤ n → unary_text names c ≡ in_parens (cond_text names c) → GoodCond names (n - 1) c → GoodUnary names n c
enclosed names n c some e g = record {
  fits = subst (UnaryFits names n) (sym e) (some, g.fits);
  spelled = subst (λ (u : UnaryText). ArePieces (unary_pieces u)) (sym e) (tt, joined (cond_pieces (cond_text names c)) (Mark kind.CloseParen ∷ []) g.spelled (tt, tt));
  back = ap (unary_tree names) e ∙ g.back;
}

opened : (names : Names) (n : ℕ) (c : Cond) → conj_text names c ≡ last_unary (in_parens (cond_text names c)) → GoodConj names n c → GoodCond names n c
opened names n c e g =
    let fits = subst (ConjFits names n) e g.fits in
    let spelled = subst (λ (u : ConjText). ArePieces (conj_pieces u)) e g.spelled in
    record {
      fits = cond_more names (n - 1) n (omega arith) (cond_text names c) fits.1;
      spelled = left (cond_pieces (cond_text names c)) (Mark kind.CloseParen ∷ []) spelled.1;
      back = sym (ap (λ (u : ConjText). gathered cond.And (conj_members names u)) e) ∙ g.back;
    }

-- one that stands between words stands by itself as well
same_cond : (names : Names) (n : ℕ) (c : Cond) → cond_text names c ≡ last_conj (conj_text names c) → GoodConj names n c → GoodCond names n c
same_cond names n c e g = record {
  fits = subst (CondFits names n) (sym e) g.fits;
  spelled = subst (λ (t : CondText). ArePieces (cond_pieces t)) (sym e) g.spelled;
  back = ap (cond_tree names) e ∙ g.back;
}

same_conj : (names : Names) (n : ℕ) (c : Cond) → conj_text names c ≡ last_unary (unary_text names c) → GoodUnary names n c → GoodConj names n c
same_conj names n c e g = record {
  fits = subst (ConjFits names n) (sym e) g.fits;
  spelled = subst (λ (t : ConjText). ArePieces (conj_pieces t)) (sym e) g.spelled;
  back = ap (λ (t : ConjText). gathered cond.And (conj_members names t)) e ∙ g.back;
}

same_unary : (names : Names) (n : ℕ) (c : Cond) → conj_text names c ≡ last_unary (unary_text names c) → GoodConj names (n - 1) c → GoodUnary names n c
same_unary names n c e g = record {
  fits = unary_more names (n - 1) n (omega arith) (unary_text names c) (subst (ConjFits names (n - 1)) e g.fits);
  spelled = subst (λ (t : ConjText). ArePieces (conj_pieces t)) e g.spelled;
  back = sym (ap (λ (t : ConjText). gathered cond.And (conj_members names t)) e) ∙ g.back;
}

unclosed : (names : Names) (n : ℕ) (c : Cond) → unary_text names c ≡ in_parens (last_conj (conj_text names c)) → GoodUnary names n c → GoodConj names n c
unclosed names n c e g =
    let fits = subst (UnaryFits names n) e g.fits in
    let spelled = subst (λ (u : UnaryText). ArePieces (unary_pieces u)) e g.spelled in
    record {
      fits = conj_more names (n - 1) n (omega arith) (conj_text names c) fits.1;
      spelled = left (conj_pieces (conj_text names c)) (Mark kind.CloseParen ∷ []) spelled.1;
      back = sym (ap (unary_tree names) e) ∙ g.back;
    }

pub conj_to_cond : (names : Names) (n : ℕ) (c : Cond) → GoodConj names n c → GoodCond names n c
conj_to_cond names n (Rel r) g = same_cond names n (Rel r) refl g
conj_to_cond names n (Not' u (more_of-Cond c end_of-Cond)) g = same_cond names n (Not' u (more_of-Cond c end_of-Cond)) refl g
conj_to_cond names n (And' s row) g = same_cond names n (And' s row) refl g
conj_to_cond names n (Or' s row) g = opened names n (Or' s row) refl g

pub unary_to_conj : (names : Names) (n : ℕ) (c : Cond) → GoodUnary names n c → GoodConj names n c
unary_to_conj names n (Rel r) g = same_conj names n (Rel r) refl g
unary_to_conj names n (Not' u (more_of-Cond c end_of-Cond)) g = same_conj names n (Not' u (more_of-Cond c end_of-Cond)) refl g
unary_to_conj names n (And' s row) g = unclosed names n (And' s row) refl g
unary_to_conj names n (Or' s row) g = same_conj names n (Or' s row) refl g

-- one that stood in parentheses, as a member of `&&` or after `!`
pub conj_to_unary : (names : Names) (n : ℕ) (c : Cond) → 1 ≤ n → GoodConj names (n - 1) c → GoodUnary names n c
conj_to_unary names n (Rel r) some g = same_unary names n (Rel r) refl g
conj_to_unary names n (Not' u (more_of-Cond c end_of-Cond)) some g = same_unary names n (Not' u (more_of-Cond c end_of-Cond)) refl g
conj_to_unary names n (And' s row) some g = enclosed names n (And' s row) some refl (conj_to_cond names (n - 1) (And' s row) g)
conj_to_unary names n (Or' s row) some g = same_unary names n (Or' s row) refl g

-- ---- lists of members

abbrev pub AllGood : (Cond → Type 0) → List Cond → Type 0
AllGood P [] = Unit {0}
AllGood P (c ∷ cs) = P c × AllGood P cs

-- the members of an `And` and of an `Or`, as lists
abbrev all_text : Names → Cond → List Cond → ConjText
all_text names c [] = last_unary (unary_text names c)
all_text names c (d ∷ ds) = and_also (unary_text names c) (all_text names d ds)

abbrev some_text : Names → Cond → List Cond → CondText
some_text names c [] = last_conj (conj_text names c)
some_text names c (d ∷ ds) = or_else (conj_text names c) (some_text names d ds)

all_of_row : (names : Names) (c : Cond) {n : _} (row : Row_of-Cond n) → conj_of_members names (more_of-Cond c row) ≡ all_text names c (items-the_row-Cond n row)
all_of_row names c end_of-Cond = refl
all_of_row names c (more_of-Cond d rest) = ap (and_also (unary_text names c)) (all_of_row names d rest)

some_of_row : (names : Names) (c : Cond) {n : _} (row : Row_of-Cond n) → cond_of_members names (more_of-Cond c row) ≡ some_text names c (items-the_row-Cond n row)
some_of_row names c end_of-Cond = refl
some_of_row names c (more_of-Cond d rest) = ap (or_else (conj_text names c)) (some_of_row names d rest)

abbrev all_list : Names → List Cond → ConjText
all_list names [] = last_unary (relation truth_text)
all_list names (c ∷ cs) = all_text names c cs

abbrev some_list : Names → List Cond → CondText
some_list names [] = last_conj (last_unary (relation falsehood_text))
some_list names (c ∷ cs) = some_text names c cs

all_row : (names : Names) {n : _} (row : Row_of-Cond n) → conj_of_members names row ≡ all_list names (items-the_row-Cond n row)
all_row names end_of-Cond = refl
all_row names (more_of-Cond c row) = all_of_row names c row

some_row : (names : Names) {n : _} (row : Row_of-Cond n) → cond_of_members names row ≡ some_list names (items-the_row-Cond n row)
some_row names end_of-Cond = refl
some_row names (more_of-Cond c row) = some_of_row names c row

conj_and : (names : Names) (cs : List Cond) → conj_text names (cond.And cs) ≡ all_list names cs
conj_and names cs = all_row names (hidden-the_row-Cond-1 cs) ∙ ap (all_list names) (items_hidden-the_row-Cond-1 cs)

cond_or : (names : Names) (cs : List Cond) → cond_text names (cond.Or cs) ≡ some_list names cs
cond_or names cs = some_row names (hidden-the_row-Cond-1 cs) ∙ ap (some_list names) (items_hidden-the_row-Cond-1 cs)

record GoodAll (names : Names) (n : ℕ) (c : Cond) (cs : List Cond) : Type 0 where
  fits : ConjFits names n (all_text names c cs)
  spelled : ArePieces (conj_pieces (all_text names c cs))
  back : conj_members names (all_text names c cs) ≡ c ∷ cs

all_good : (names : Names) (n : ℕ) (c : Cond) (cs : List Cond) → GoodUnary names n c → AllGood (GoodUnary names n) cs → GoodAll names n c cs
all_good names n c [] g gs = record { fits = g.fits; spelled = g.spelled; back = ap (λ (d : Cond). d ∷ []) g.back }
all_good names n c (d ∷ ds) g gs =
    let r = all_good names n d ds gs.0 gs.1 in
    record {
      fits = (g.fits, r.fits);
      spelled = joined (unary_pieces (unary_text names c)) _ g.spelled (tt, r.spelled);
      back = ap₂ (λ (x : Cond) (xs : List Cond). x ∷ xs) g.back r.back;
    }

record GoodSome (names : Names) (n : ℕ) (c : Cond) (cs : List Cond) : Type 0 where
  fits : CondFits names n (some_text names c cs)
  spelled : ArePieces (cond_pieces (some_text names c cs))
  back : cond_members names (some_text names c cs) ≡ c ∷ cs

some_good : (names : Names) (n : ℕ) (c : Cond) (cs : List Cond) → GoodConj names n c → AllGood (GoodConj names n) cs → GoodSome names n c cs
some_good names n c [] g gs = record { fits = g.fits; spelled = g.spelled; back = ap (λ (d : Cond). d ∷ []) g.back }
some_good names n c (d ∷ ds) g gs =
    let r = some_good names n d ds gs.0 gs.1 in
    record {
      fits = (g.fits, r.fits);
      spelled = joined (conj_pieces (conj_text names c)) _ g.spelled (tt, r.spelled);
      back = ap₂ (λ (x : Cond) (xs : List Cond). x ∷ xs) g.back r.back;
    }

-- several members
and_good : (names : Names) (n : ℕ) (c d : Cond) (ds : List Cond) → AllGood (GoodUnary names n) (c ∷ d ∷ ds) → GoodConj names n (cond.And (c ∷ d ∷ ds))
and_good names n c d ds gs =
    let g = all_good names n c (d ∷ ds) gs.0 gs.1 in
    let e = conj_and names (c ∷ d ∷ ds) in
    record {
      fits = subst (ConjFits names n) (sym e) g.fits;
      spelled = subst (λ (t : ConjText). ArePieces (conj_pieces t)) (sym e) g.spelled;
      back = ap (λ (t : ConjText). gathered cond.And (conj_members names t)) e ∙ ap (gathered cond.And) g.back;
    }

or_good : (names : Names) (n : ℕ) (c d : Cond) (ds : List Cond) → AllGood (GoodConj names n) (c ∷ d ∷ ds) → GoodCond names n (cond.Or (c ∷ d ∷ ds))
or_good names n c d ds gs =
    let g = some_good names n c (d ∷ ds) gs.0 gs.1 in
    let e = cond_or names (c ∷ d ∷ ds) in
    record {
      fits = subst (CondFits names n) (sym e) g.fits;
      spelled = subst (λ (t : CondText). ArePieces (cond_pieces t)) (sym e) g.spelled;
      back = ap (cond_tree names) e ∙ ap (gathered cond.Or) g.back;
    }

-- one or several members
gathered_conj : (names : Names) (n : ℕ) (c : Cond) (cs : List Cond) → AllGood (GoodUnary names n) (c ∷ cs) → GoodConj names n (gathered cond.And (c ∷ cs))
gathered_conj names n c [] gs = unary_to_conj names n c gs.0
gathered_conj names n c (d ∷ ds) gs = and_good names n c d ds gs

gathered_cond : (names : Names) (n : ℕ) (c : Cond) (cs : List Cond) → AllGood (GoodConj names n) (c ∷ cs) → GoodCond names n (gathered cond.Or (c ∷ cs))
gathered_cond names n c [] gs = conj_to_cond names n c gs.0
gathered_cond names n c (d ∷ ds) gs = or_good names n c d ds gs

gathered_unary : (names : Names) (n : ℕ) (c : Cond) (cs : List Cond) → 1 ≤ n → AllGood (GoodConj names (n - 1)) (c ∷ cs) → GoodUnary names n (gathered cond.Or (c ∷ cs))
gathered_unary names n c [] some gs = conj_to_unary names n c some gs.0
gathered_unary names n c (d ∷ ds) some gs = enclosed names n (cond.Or (c ∷ d ∷ ds)) some refl (or_good names (n - 1) c d ds gs)

-- ---- the conditions of texts

not_good : (names : Names) (n : ℕ) (c : Cond) → 1 ≤ n → GoodUnary names (n - 1) c → GoodUnary names n (cond.Not c)
unfolding hidden-the_row-Cond-0 hidden
not_good names n c some g = record { fits = (some, g.fits); spelled = (tt, g.spelled); back = ap cond.Not g.back }

-- the members of a text, of which there is one at least
record GoodMembers (P : Cond → Type 0) (cs : List Cond) : Type 0 where
  first : Cond
  further : List Cond
  is : cs ≡ first ∷ further
  good : AllGood P (first ∷ further)

mutual
  pub unary_good : (names : Names) (n : ℕ) (u : UnaryText) → UnaryFits names n u → ArePieces (unary_pieces u) → GoodUnary names n (unary_tree names u)
  unary_good names n (negation u) fit h = not_good names n (unary_tree names u) fit.0 (unary_good names (n - 1) u fit.1 h.1)
  unary_good names n (in_parens c) fit h =
      let m = cond_members_good names (n - 1) c fit.1 (left (cond_pieces c) (Mark kind.CloseParen ∷ []) h.1) in
      subst (λ (cs : List Cond). GoodUnary names n (gathered cond.Or cs)) (sym m.is) (gathered_unary names n m.first m.further fit.0 m.good)
  unary_good names n (relation r) fit h = let g = relation_good names r fit h in record { fits = g.fits; spelled = g.spelled; back = ap cond.Rel g.back }

  conj_members_good : (names : Names) (n : ℕ) (c : ConjText) → ConjFits names n c → ArePieces (conj_pieces c) → GoodMembers (GoodUnary names n) (conj_members names c)
  conj_members_good names n (last_unary u) fit h = record { first = unary_tree names u; further = []; is = refl; good = (unary_good names n u fit h, tt) }
  conj_members_good names n (and_also u rest) fit h =
      let m = conj_members_good names n rest fit.1 (right (unary_pieces u) (Mark kind.And ∷ conj_pieces rest) h).1 in
      record {
        first = unary_tree names u;
        further = m.first ∷ m.further;
        is = ap (λ (cs : List Cond). unary_tree names u ∷ cs) m.is;
        good = (unary_good names n u fit.0 (left (unary_pieces u) (Mark kind.And ∷ conj_pieces rest) h), m.good);
      }

  cond_members_good : (names : Names) (n : ℕ) (c : CondText) → CondFits names n c → ArePieces (cond_pieces c) → GoodMembers (GoodConj names n) (cond_members names c)
  cond_members_good names n (last_conj c) fit h =
      let m = conj_members_good names n c fit h in
      record { first = gathered cond.And (conj_members names c); further = []; is = refl; good = (subst (λ (cs : List Cond). GoodConj names n (gathered cond.And cs)) (sym m.is) (gathered_conj names n m.first m.further m.good), tt) }
  cond_members_good names n (or_else c rest) fit h =
      let m = conj_members_good names n c fit.0 (left (conj_pieces c) (Mark kind.Or ∷ cond_pieces rest) h) in
      let r = cond_members_good names n rest fit.1 (right (conj_pieces c) (Mark kind.Or ∷ cond_pieces rest) h).1 in
      record {
        first = gathered cond.And (conj_members names c);
        further = r.first ∷ r.further;
        is = ap (λ (cs : List Cond). gathered cond.And (conj_members names c) ∷ cs) r.is;
        good = (subst (λ (cs : List Cond). GoodConj names n (gathered cond.And cs)) (sym m.is) (gathered_conj names n m.first m.further m.good), r.good);
      }

pub cond_good : (names : Names) (n : ℕ) (c : CondText) → CondFits names n c → ArePieces (cond_pieces c) → GoodCond names n (cond_tree names c)
cond_good names n c fit h =
    let m = cond_members_good names n c fit h in
    subst (λ (cs : List Cond). GoodCond names n (gathered cond.Or cs)) (sym m.is) (gathered_cond names n m.first m.further m.good)

pub record GoodTest (names : Names) (n : ℕ) (t : Test) : Type 0 where
  pub fits : TestFits names n (test_text names t)
  pub spelled : ArePieces (test_pieces (test_text names t))
  pub back : test_tree names (test_text names t) ≡ t

pub test_good : (names : Names) (n : ℕ) (t : TestText) → TestFits names n t → ArePieces (test_pieces t) → GoodTest names n (test_tree names t)
test_good names n either fit h = record { fits = fit; spelled = h; back = refl }
test_good names n (condition c) fit h =
    let g = cond_good names (n - 1) c fit.1 (left (cond_pieces c) (Mark kind.CloseParen ∷ []) h.1) in
    record { fits = (fit.0, g.fits); spelled = (tt, joined (cond_pieces (cond_text names (cond_tree names c))) (Mark kind.CloseParen ∷ []) g.spelled (tt, tt)); back = ap test.Cond g.back }
