-- The laws of the comparison and of the hash of commands.
use Rattle.std.specs.Prelude.{◌≡◌, ℤ, pos, true, ◌&&◌, [], List}
use Rattle.std.specs.Bool.{Decides}
use Rattle.std.specs.Cmp.{IsEquivalence, IsPartialEquivalence, partial_equiv_from_equiv}
use Rattle.std.proofs.Common.{refl, sym, ap, arith}
use Rattle.std.proofs.lemmas.Bool.Decides.{Decides-and, Decides-int_eq, Decides-like, same_from_decides, nat_tests}
use Rattle.std.proofs.lemmas.Slice.Eq.{slice_eq-Decides}
use Rattle.std.specs.Cmp.Lexicographic.{pointwise}
use Rattle.std.specs.Ordering.{int_eq}
use Rattle.ps_command.specs.declared.op.Op.{Op}
use Rattle.ps_command.specs.declared.op.Op.TheVariants.{Assume, Assign, Havoc as HavocOp}
use Rattle.ps_compile.specs.declared.command_key.CommandKey.{CommandKey}
use Rattle.ps_compile.specs.declared.command_key.OpKey.{OpKey}
use Rattle.ps_compile.specs.inner.Keys.{term_eq, op_eq, op_key_eq, op_key_fed, key_eq, key_fed}
use Rattle.ps_term.specs.Hashed.{pair_decides, pair_eq, var_decides}
use Rattle.ps_term.specs.contracts.var.VarPartialEq.TheImpl as tests
use Rattle.ps_term.specs.declared.row.Row.{Row}
use Rattle.ps_term.specs.declared.term.Term.{Term}
use Rattle.ps_term.specs.declared.var.Var.{Var}
use Rattle.ps_term.specs.declared.var.Var.TheVariants.{Global, Local, Havoc}

term_decides : (a b : Term) → Decides (term_eq a b) (a ≡ b)
term_decides a b =
    Decides-like (term_eq a b) (λ e. λ i. record { pairs = e.1 i; constant = e.0 i }) (λ e. (ap (λ (t : Term). t.constant) e, ap (λ (t : Term). t.pairs) e))
    (Decides-and (int_eq a.constant b.constant) (pointwise pair_eq a.pairs b.pairs) (Decides-int_eq a.constant b.constant)
    (slice_eq-Decides pair_decides a.pairs b.pairs (pointwise pair_eq a.pairs b.pairs) refl))

-- the term of an op, and its variable
abbrev term_in : Op → Term
term_in (Assume r) = r.term
term_in (Assign _ t) = t
term_in (HavocOp _) = record { pairs = []; constant = pos 0 }

abbrev var_in : Op → Var
var_in (Assume _) = Global 0
var_in (Assign x _) = x
var_in (HavocOp x) = x

pub op_decides : (a b : Op) → Decides (op_eq a b) (a ≡ b)
op_decides (Assume r) (Assume s) =
    Decides-like (term_eq r.term s.term) (λ e. ap (λ (t : Term). let q : Row = record { term = t } in Assume q) e) (λ e. ap term_in e) (term_decides r.term s.term)
op_decides (Assign x t) (Assign y u) =
    Decides-like (tests.ghosts.eq x y && term_eq t u) (λ e. λ i. Assign (e.0 i) (e.1 i)) (λ e. (ap var_in e, ap term_in e))
    (Decides-and (tests.ghosts.eq x y) (term_eq t u) (var_decides x y) (term_decides t u))
op_decides (HavocOp x) (HavocOp y) = Decides-like (tests.ghosts.eq x y) (λ e. ap HavocOp e) (λ e. ap var_in e) (var_decides x y)
op_decides (Assume _) (Assign _ _) = ((λ e. cc), (λ e. cc))
op_decides (Assume _) (HavocOp _) = ((λ e. cc), (λ e. cc))
op_decides (Assign _ _) (Assume _) = ((λ e. cc), (λ e. cc))
op_decides (Assign _ _) (HavocOp _) = ((λ e. cc), (λ e. cc))
op_decides (HavocOp _) (Assume _) = ((λ e. cc), (λ e. cc))
op_decides (HavocOp _) (Assign _ _) = ((λ e. cc), (λ e. cc))

pub op_key_decides : (a b : OpKey) → Decides (op_key_eq a b) (a ≡ b)
op_key_decides a b =
    Decides-like (op_key_eq a b) (λ e. ap (λ (o : Op). let k : OpKey = record { op = o } in k) e) (λ e. ap (λ (k : OpKey). k.op) e) (op_decides a.op b.op)

pub op_key_equiv : IsEquivalence op_key_eq
op_key_equiv = record {
  refl = λ x. (op_key_decides x x).1 refl;
  symm = λ x y. same_from_decides (op_key_eq x y) (op_key_eq y x) (op_key_decides x y) (Decides-like (op_key_eq y x) (λ e. sym e) (λ e. sym e) (op_key_decides y x));
  congr = λ x y z e. ap (λ (w : OpKey). op_key_eq w z) ((op_key_decides x y).0 e);
}

pub op_key_laws : IsPartialEquivalence op_key_eq
op_key_laws = partial_equiv_from_equiv op_key_equiv

pub op_key_alike : (x y : OpKey) → op_key_eq x y ≡ true → op_key_fed x ≡ op_key_fed y
op_key_alike x y e = ap op_key_fed ((op_key_decides x y).0 e)

pub key_decides : (a b : CommandKey) → Decides (key_eq a b) (a ≡ b)
key_decides a b =
    Decides-like (key_eq a b) (λ e. ap (λ (os : List OpKey). let k : CommandKey = record { ops = os } in k) e) (λ e. ap (λ (k : CommandKey). k.ops) e)
    (slice_eq-Decides op_key_decides a.ops b.ops (pointwise op_key_eq a.ops b.ops) refl)

pub key_equiv : IsEquivalence key_eq
key_equiv = record {
  refl = λ x. (key_decides x x).1 refl;
  symm = λ x y. same_from_decides (key_eq x y) (key_eq y x) (key_decides x y) (Decides-like (key_eq y x) (λ e. sym e) (λ e. sym e) (key_decides y x));
  congr = λ x y z e. ap (λ (w : CommandKey). key_eq w z) ((key_decides x y).0 e);
}

pub key_laws : IsPartialEquivalence key_eq
key_laws = partial_equiv_from_equiv key_equiv

pub key_alike : (x y : CommandKey) → key_eq x y ≡ true → key_fed x ≡ key_fed y
key_alike x y e = ap key_fed ((key_decides x y).0 e)
