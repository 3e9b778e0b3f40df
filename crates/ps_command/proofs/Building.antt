-- A form that is made op by op: what is done, with what is left, is all.
use Rattle.std.proofs.Common.{◌≡◌, ◌≤◌, ◌<◌, ◌+◌, ℕ, List, [], ◌∷◌, length, get_or, drop, refl, sym, subst, arith}
use Rattle.std.proofs.lemmas.List.{drop_more}
use Rattle.ps_command.specs.Form.{with_op, form_from, form_of, empty_form, OpFits, FormFitsFrom, FormFits}
use Rattle.ps_command.specs.declared.op.Op.{Op}
use Rattle.ps_command.specs.declared.symbolic_form.SymbolicForm.{SymbolicForm}

pub record IsBuilt (ops : List Op) (form : SymbolicForm) (done : ℕ) (rest : List Op) : Type 0 where
  pub all : form_from form rest ≡ form_of ops
  pub fits : FormFitsFrom form rest → FormFits ops
  pub fit : FormFits ops → FormFitsFrom form rest
  pub counted : form.havocs ≤ done

pub built_start : (ops : List Op) (form : SymbolicForm) → form ≡ empty_form → IsBuilt ops form 0 ops
built_start ops form e = subst (λ (f : SymbolicForm). IsBuilt ops f 0 ops) (sym e) (record { all = refl; fits = λ h. h; fit = λ h. h; counted = omega arith })

built_turn : (ops : List Op) (form new : SymbolicForm) (done : ℕ) (op : Op) (rest : List Op) → IsBuilt ops form done (op ∷ rest) → OpFits form op →
    new ≡ with_op form op → new.havocs ≤ form.havocs + 1 → IsBuilt ops new (done + 1) rest
built_turn ops form new done op rest b f e n = record {
  all = subst (λ (g : SymbolicForm). form_from g rest ≡ form_of ops) (sym e) b.all;
  fits = λ h. b.fits (f, subst (λ (g : SymbolicForm). FormFitsFrom g rest) e h);
  fit = λ h. subst (λ (g : SymbolicForm). FormFitsFrom g rest) (sym e) (b.fit h).1;
  counted = omega (arith, b.counted, n);
}

-- the same at a place of the ops
pub built_step : (ops all : List Op) (form new : SymbolicForm) (i : ℕ) (op : Op) → IsBuilt ops form i (drop i all) → i < length all → op ≡ get_or all i op →
    OpFits form op → new ≡ with_op form op → new.havocs ≤ form.havocs + 1 → IsBuilt ops new (i + 1) (drop (i + 1) all)
built_step ops all form new i op b h is f e n =
    let front : drop i all ≡ op ∷ drop (i + 1) all = subst (λ (o : Op). drop i all ≡ o ∷ drop (i + 1) all) (sym is) (drop_more all i op h) in
    built_turn ops form new i op (drop (i + 1) all) (subst (λ (rest : List Op). IsBuilt ops form i rest) front b) f e n

pub built_past : (ops all : List Op) (form : SymbolicForm) (i : ℕ) (op : Op) → IsBuilt ops form i (drop i all) → i < length all → op ≡ get_or all i op →
    ¬ OpFits form op → ¬ FormFits ops
built_past ops all form i op b h is past f =
    let front : drop i all ≡ op ∷ drop (i + 1) all = subst (λ (o : Op). drop i all ≡ o ∷ drop (i + 1) all) (sym is) (drop_more all i op h) in
    past (subst (λ (rest : List Op). FormFitsFrom form rest) front (b.fit f)).0

pub built_end : (ops : List Op) (form : SymbolicForm) (i : ℕ) (rest : List Op) → rest ≡ [] → IsBuilt ops form i rest → (form ≡ form_of ops) × FormFits ops
built_end ops form i rest e b =
    let whole : IsBuilt ops form i [] = subst (λ (r : List Op). IsBuilt ops form i r) e b in
    (whole.all, whole.fits tt)
