-- What is known of a result, case by case.
use Rattle.std.proofs.Common.{◌≡◌, ap, subst}
use Rattle.std.specs.Prelude.{Result, Ok, Err, Option, Some, None, IfOk, IsErrOf, MatchOption, OnOk}

pub if_ok : {T E : Type 0} {P Q : T → Type 0} (r : Result T E) → ((x : T) → P x → Q x) → IfOk r P → IfOk r Q
if_ok (Ok x) f h = f x h
if_ok (Err e) f h = tt

pub on_ok : {T E : Type 0} {P Q : Type 0} (r : Result T E) → (P → Q) → OnOk r P → OnOk r Q
on_ok (Ok x) f h = f h
on_ok (Err e) f h = tt

pub both_on : {T E : Type 0} {P Q : T → Type 0} {R : Type 0} (r : Result T E) → ((x : T) → P x → Q x → R) → IfOk r P → IfOk r Q → OnOk r R
both_on (Ok x) f p q = f x p q
both_on (Err e) f p q = tt

pub both_ok : {T E : Type 0} {P Q R : T → Type 0} (r : Result T E) → ((x : T) → P x → Q x → R x) → IfOk r P → IfOk r Q → IfOk r R
both_ok (Ok x) f p q = f x p q
both_ok (Err e) f p q = tt

pub match_both : {T : Type 0} {A B C : Type 0} {P Q R : T → Type 0} (o : Option T) → (A → B → C) → ((x : T) → P x → Q x → R x) → MatchOption o A P → MatchOption o B Q → MatchOption o C R
match_both None f g p q = f p q
match_both (Some x) f g p q = g x p q

pub match_map : {T : Type 0} {A B : Type 0} {P Q : T → Type 0} (o : Option T) → (A → B) → ((x : T) → P x → Q x) → MatchOption o A P → MatchOption o B Q
match_map None f g p = f p
match_map (Some x) f g p = g x p

pub at_none : {T : Type 0} (A : Type 0) (P : T → Type 0) (o : Option T) → o ≡ None → MatchOption o A P → A
at_none {T = T} A P o e h = subst (λ (p : Option T). MatchOption p A P) e h

pub at_some : {T : Type 0} (A : Type 0) (P : T → Type 0) (o : Option T) (x : T) → o ≡ Some x → MatchOption o A P → P x
at_some {T = T} A P o x e h = subst (λ (p : Option T). MatchOption p A P) e h

pub same_error : {T U E : Type 0} (e f : E) → IsErrOf {T = T} {E = E} (Err e) f → IsErrOf {T = U} {E = E} (Err e) f
same_error e f h = let same : e ≡ f = cc in ap (λ x. Err x) same
