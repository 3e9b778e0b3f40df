-- Steps of the walk over sets, on plain lists.
use Rattle.std.proofs.Common.{◌≡◌, ◌<◌, ◌≤◌, ◌+◌, ◌-◌, ℕ, zero, suc, Bool, true, false, not, nat_lt, List, [], ◌∷◌, ◌++◌, map, length, drop, take, get_or, min, Option, Some, None, Result, Ok, Err, IfNone, IfSome, IfOk, refl, sym, ap, ◌∙◌, subst, append_assoc, inl, inr, Contains, All, AllPairs, IsTrue, arith, add-one}
use Rattle.std.specs.List.{list_any}
use Rattle.std.specs.List.Sorted.{IsStrictlySortedBy}
use Rattle.std.specs.declared.cmp.Ordering.{Ordering}
use Rattle.std.proofs.lemmas.Bool.Decides.{nat_tests}
use Rattle.std.proofs.lemmas.List.Elements.{All-contains, All-more, All-push, at_read}
use Rattle.std.proofs.lemmas.List.{take_all, drop_all}
use Rattle.ps_atom.specs.Atoms.{atom_cmp}
use Rattle.ps_atom.specs.Numbers.{false_predicate}
use Rattle.ps_atom.specs.Range.{IsInRange}
use Rattle.ps_atom.specs.declared.atom.Atom.{Atom}
use Rattle.ps_atom.specs.declared.predicate.Predicate.{Predicate}
use Rattle.ps_command.specs.declared.setting.Setting.{Setting}
use Rattle.ps_list.proofs.Mapped.{mapped}
use Rattle.ps_saturate.proofs.Anys.{any_map, left_at}
use Rattle.ps_saturate.proofs.Arranged.{post_threads_are, post_threads_fit}
use Rattle.ps_saturate.proofs.Ascents.{sorted_without}
use Rattle.ps_saturate.proofs.Finding.{IsBelow, nothing_below, one_size_more}
use Rattle.ps_saturate.proofs.Trying.{Walks, walks_end, walks_step}
use Rattle.ps_saturate.specs.Asked.{asked_post}
use Rattle.ps_saturate.specs.Patterns.{IsSubject, post_threads}
use Rattle.ps_saturate.specs.declared.choice.Choice.{Choice}
use Rattle.ps_saturate.specs.declared.question.Question.{Question}
use Rattle.ps_saturate.specs.declared.trial.Trial.{Trial}
use Rattle.ps_saturate.specs.inner.Arranging.{AreThreadsOf, thread_count}
use Rattle.ps_saturate.specs.inner.Choosing.{after_all, choices}
use Rattle.ps_saturate.specs.inner.Trials.{AreTried, IsReady, atoms_of, pointed_to}
use Rattle.ps_triple.specs.Rows.{predicate_of}
use Rattle.ps_triple.specs.Tests.{HasThreadsOnce, IsAtomOf}
use Rattle.ps_triple.specs.declared.triple.Triple.{Triple}
use denote.Ref.{Bor}

-- ---- options and results

pub if_none : {X : Type 0} (o : Option X) (P Q : Type 0) → (P → Q) → IfNone o P → IfNone o Q
if_none None P Q f h = f h
if_none (Some x) P Q f h = tt

pub if_ok : {X E : Type 0} (r : Result X E) (P Q : X → Type 0) → ((x : X) → P x → Q x) → IfOk r P → IfOk r Q
if_ok (Ok x) P Q f h = f x h
if_ok (Err e) P Q f h = tt

-- ---- members at places

pub member : {X : Type 0} (xs : List X) (i : ℕ) (x : X) → i < length xs → x ≡ get_or xs i x → Contains xs x
member xs i x within is = (i, within, sym is)

pub choice_member : (set : List (Bor Choice)) (i : ℕ) (r : Bor Choice) → i < length set → r ≡ get_or set i r → Contains (atoms_of (pointed_to set)) r.now.atom
choice_member set i r within is = mapped (λ (c : Choice). c.atom) (pointed_to set) r.now (mapped (λ (b : Bor Choice). b.now) set r (member set i r within is))

pub any_choices : (old : ℕ) (set : List (Bor Choice)) → list_any (λ r. not (nat_lt r.now.atom.predicate old)) set ≡ list_any (λ q. not (nat_lt q.predicate old)) (atoms_of (pointed_to set))
any_choices old set =
    any_map (λ (r : Bor Choice). r.now) (λ (c : Choice). not (nat_lt c.atom.predicate old)) set
    ∙ any_map (λ (c : Choice). c.atom) (λ (q : Atom). not (nat_lt q.predicate old)) (pointed_to set)

pub not_below : (n m : ℕ) → m ≤ n → not (nat_lt n m) ≡ true
not_below n m h = grind (arith, nat_tests)

pub below : (n m : ℕ) → n < m → not (nat_lt n m) ≡ false
below n m h = grind (arith, nat_tests)

pub all_more : {X : Type 0} (P : X → Type 0) (xs : List X) (i : ℕ) (x : X) → i < length xs → x ≡ get_or xs i x → All P (take i xs) → P x → All P (take (i + 1) xs)
all_more {X} P xs i x within is h one = All-more P xs i x within h (subst (λ (y : X). P y) is one)

pub all_taken : {X : Type 0} (P : X → Type 0) (xs : List X) (i : ℕ) → length xs ≤ i → All P (take i xs) → All P xs
all_taken {X} P xs i end h = subst (λ (ys : List X). All P ys) (take_all i xs end) h

-- ---- ascending lists

pub map_drop : {X Y : Type 0} (f : X → Y) (i : ℕ) (xs : List X) → map f (drop i xs) ≡ drop i (map f xs)
map_drop f zero xs = refl
map_drop f (suc i) [] = refl
map_drop f (suc i) (x ∷ xs) = map_drop f i xs

sorted_dropped : {X : Type 0} (c : X → X → Ordering) (xs : List X) (i : ℕ) (ys : List X) → IsStrictlySortedBy c (xs ++ ys) → IsStrictlySortedBy c (xs ++ drop i ys)
sorted_dropped c xs zero ys s = s
sorted_dropped c xs (suc i) [] s = s
sorted_dropped c xs (suc i) (y ∷ ys) s = sorted_dropped c xs i ys (sorted_without c xs y ys s)

-- the rest of the choices from the next place on
pub rest_is : (rest : List Choice) (i : ℕ) → take (length rest - (i + 1)) (drop (i + 1) rest) ≡ drop (i + 1) rest
rest_is rest i = take_all (length rest - (i + 1)) (drop (i + 1) rest) (let e = Rattle.std.proofs.lemmas.List.length-drop (i + 1) rest in omega arith)

-- the atoms that are left begin with the one at the place
pub atoms_left : (rest : List Choice) (i : ℕ) (c : Choice) → i < length rest → c ≡ get_or rest i c → atoms_of (drop i rest) ≡ c.atom ∷ atoms_of (drop (i + 1) rest)
atoms_left rest i c within is = ap atoms_of (left_at rest i c within is)

-- with the choice at the place, and those after it, the atoms still ascend
pub longer_ascends : (set rest : List Choice) (i : ℕ) (c : Choice) (longer : List Choice) → i < length rest → c ≡ get_or rest i c → longer ≡ set ++ c ∷ [] → IsStrictlySortedBy atom_cmp (atoms_of set ++ atoms_of rest)
    → IsStrictlySortedBy atom_cmp (atoms_of longer ++ atoms_of (drop (i + 1) rest))
longer_ascends set rest i c longer within is longer_is s =
    let dropped : IsStrictlySortedBy atom_cmp (atoms_of set ++ atoms_of (drop i rest)) = subst (λ (qs : List Atom). IsStrictlySortedBy atom_cmp (atoms_of set ++ qs)) (sym (map_drop (λ (d : Choice). d.atom) i rest)) (sorted_dropped atom_cmp (atoms_of set) i (atoms_of rest) s) in
    let here : IsStrictlySortedBy atom_cmp (atoms_of set ++ c.atom ∷ atoms_of (drop (i + 1) rest)) = subst (λ (qs : List Atom). IsStrictlySortedBy atom_cmp (atoms_of set ++ qs)) (atoms_left rest i c within is) dropped in
    subst (λ (qs : List Atom). IsStrictlySortedBy atom_cmp qs) (sym (ap (λ (qs : List Atom). qs ++ atoms_of (drop (i + 1) rest)) (longer_atoms set c longer longer_is) ∙ append_assoc (atoms_of set) (c.atom ∷ []) (atoms_of (drop (i + 1) rest)))) here
  where
    longer_atoms : (set : List Choice) (c : Choice) (longer : List Choice) → longer ≡ set ++ c ∷ [] → atoms_of longer ≡ atoms_of set ++ c.atom ∷ []
    longer_atoms set c longer e = ap atoms_of e ∙ Rattle.ps_saturate.proofs.Trying.map_append (λ (d : Choice). d.atom) set (c ∷ [])

pub longer_atoms_are : (set : List Choice) (c : Choice) (longer : List Choice) → longer ≡ set ++ c ∷ [] → atoms_of longer ≡ atoms_of set ++ c.atom ∷ []
longer_atoms_are set c longer e = ap atoms_of e ∙ Rattle.ps_saturate.proofs.Trying.map_append (λ (d : Choice). d.atom) set (c ∷ [])

pub all_longer : (P : Choice → Type 0) (set rest : List Choice) (i : ℕ) (c : Choice) (longer : List Choice) → i < length rest → c ≡ get_or rest i c → longer ≡ set ++ c ∷ [] → All P set → All P rest → All P longer
all_longer P set rest i c longer within is longer_is h k = subst (λ (cs : List Choice). All P cs) (sym longer_is) (All-push P set c h (All-contains P rest c k (member rest i c within is)))

-- one choice more is walked over
pub walk_on : (trial : Trial) (set rest longer : List Choice) (i : ℕ) (c : Choice) (more : ℕ) (found so_far next : List Triple) → (1 ≤ more) → i < length rest → c ≡ get_or rest i c → longer ≡ set ++ c ∷ []
    → Walks trial (atoms_of set) (atoms_of rest) (atoms_of (drop i rest)) more found so_far
    → AreTried trial (after_all (atoms_of longer) (choices (atoms_of (drop (i + 1) rest)) (more - 1))) so_far next
    → Walks trial (atoms_of set) (atoms_of rest) (atoms_of (drop (i + 1) rest)) more found next
walk_on trial set rest longer i c more found so_far next some within is longer_is walks h =
    let e : more ≡ suc (more - 1) = omega arith in
    subst (λ (n : ℕ). Walks trial (atoms_of set) (atoms_of rest) (atoms_of (drop (i + 1) rest)) n found next) (sym e)
    (walks_step trial (atoms_of set) (atoms_of rest) c.atom (atoms_of (drop (i + 1) rest)) (more - 1) found so_far next
    (subst (λ (qs : List Atom). Walks trial (atoms_of set) (atoms_of rest) qs (suc (more - 1)) found so_far) (atoms_left rest i c within is) (subst (λ (n : ℕ). Walks trial (atoms_of set) (atoms_of rest) (atoms_of (drop i rest)) n found so_far) e walks))
    (subst (λ (qs : List Atom). AreTried trial (after_all qs (choices (atoms_of (drop (i + 1) rest)) (more - 1))) so_far next) (longer_atoms_are set c longer longer_is) h))

pub walked : (trial : Trial) (set rest : List Choice) (i more : ℕ) (found so_far : List Triple) → (1 ≤ more) → length rest ≤ i → Walks trial (atoms_of set) (atoms_of rest) (atoms_of (drop i rest)) more found so_far
    → AreTried trial (after_all (atoms_of set) (choices (atoms_of rest) more)) found so_far
walked trial set rest i more found so_far some end walks =
    let e : more ≡ suc (more - 1) = omega arith in
    subst (λ (n : ℕ). AreTried trial (after_all (atoms_of set) (choices (atoms_of rest) n)) found so_far) (sym e)
    (walks_end trial (atoms_of set) (atoms_of rest) (more - 1) found so_far
    (subst (λ (cs : List Choice). Walks trial (atoms_of set) (atoms_of rest) (atoms_of cs) (suc (more - 1)) found so_far) (drop_all i rest end) (subst (λ (n : ℕ). Walks trial (atoms_of set) (atoms_of rest) (atoms_of (drop i rest)) n found so_far) e walks)))

-- ---- sizes

after_nothing : (cs : List (List Atom)) → after_all [] cs ≡ cs
after_nothing [] = refl
after_nothing (c ∷ cs) = ap (λ (ds : List (List Atom)). c ∷ ds) (after_nothing cs)

pub first_size : (trial : Trial) (atoms : List Atom) (found : List Triple) → found ≡ [] → IsBelow trial atoms 0 found
first_size trial atoms found none = subst (λ (f : List Triple). IsBelow trial atoms 0 f) (sym none) (nothing_below trial atoms)

pub next_size : (trial : Trial) (list rest : List Choice) (none : List (Bor Choice)) (size most : ℕ) (found new : List Triple) → IsStrictlySortedBy atom_cmp (atoms_of list) → none ≡ [] → rest ≡ list → size < most + 1
    → most ≡ min (length list) trial.width → IsBelow trial (atoms_of list) size found → AreTried trial (after_all (atoms_of (pointed_to none)) (choices (atoms_of rest) size)) found new → IsBelow trial (atoms_of list) (size + 1) new
next_size trial list rest none size most found new sorted none_is rest_same within most_is below h =
    one_size_more trial (atoms_of list) size found new sorted (omega (arith, within, most_is)) below
    (subst (λ (sets : List (List Atom)). AreTried trial sets found new) (after_nothing (choices (atoms_of list) size))
    (subst (λ (cs : List Choice). AreTried trial (after_all [] (choices (atoms_of cs) size)) found new) rest_same
    (subst (λ (rs : List (Bor Choice)). AreTried trial (after_all (atoms_of (pointed_to rs)) (choices (atoms_of rest) size)) found new) none_is h)))

-- ---- the post

pub read_predicate : (predicates : List Predicate) (n : ℕ) (p : Predicate) → n < length predicates → p ≡ get_or predicates n p → p ≡ predicate_of predicates n
read_predicate predicates n p within is = at_read predicates (λ y. p ≡ y) n p within is refl false_predicate

pub post_ready : (setting : Setting) (predicates : List Predicate) (question : Question) (p : Predicate) (threads : List ℕ) → IsSubject setting predicates question.post question.command question.pattern
    → p ≡ get_or predicates question.post p → IsInRange setting.globals setting.locals p → threads ≡ post_threads question.pattern p.arity
    → IsAtomOf setting predicates (record { predicate = question.post; threads = threads }) × AllPairs (λ (s t : ℕ). Rattle.std.proofs.Common.◌≢◌ s t) threads × (let q : Atom = record { predicate = question.post; threads = threads } in q ≡ asked_post predicates question)
post_ready setting predicates question p threads subject is range threads_are =
    let same : p ≡ predicate_of predicates question.post = read_predicate predicates question.post p subject.post_is is in
    let slots : threads ≡ post_threads question.pattern (predicate_of predicates question.post).arity = threads_are ∙ ap (λ (r : Predicate). post_threads question.pattern r.arity) same in
    let fit = post_threads_fit question.pattern (predicate_of predicates question.post).arity subject.fits subject.slots in (
      ((subject.post_is, subst (λ (r : Predicate). IsInRange setting.globals setting.locals r) same range), ap length slots ∙ fit.0),
      subst (λ (ts : List ℕ). AllPairs (λ (s t : ℕ). Rattle.std.proofs.Common.◌≢◌ s t) ts) (sym slots) fit.1,
      ap (λ (ts : List ℕ). let q : Atom = record { predicate = question.post; threads = ts } in q) slots,
    )

pub trial_threads : (trial : Trial) (p : Predicate) (count : ℕ) → IsReady trial → IsSubject trial.setting.now trial.predicates.now trial.question.post trial.question.command trial.question.pattern
    → p ≡ get_or trial.predicates.now trial.question.post p → count ≡ thread_count trial.question.pattern p.arity → AreThreadsOf trial.post.threads count
trial_threads trial p count ready subject is counted =
    let same : p ≡ predicate_of trial.predicates.now trial.question.post = read_predicate trial.predicates.now trial.question.post p subject.post_is is in
    subst (λ (q : Atom). AreThreadsOf q.threads count) (sym ready.post_is)
    (subst (λ (n : ℕ). AreThreadsOf (post_threads trial.question.pattern (predicate_of trial.predicates.now trial.question.post).arity) n) (sym (counted ∙ ap (λ (r : Predicate). thread_count trial.question.pattern r.arity) same))
    (post_threads_are trial.question.pattern (predicate_of trial.predicates.now trial.question.post).arity subject.fits))

-- ---- choices of one predicate

-- each list is one of those that they are
pub lists_among : {V : Type 0} (f : V → List ℕ) (lists : List V) (all : List (List ℕ)) → map f lists ≡ all → All (λ v. Contains all (f v)) lists
lists_among {V} f lists all e = Rattle.ps_saturate.proofs.Ascents.all_from (λ (v : V). Contains all (f v)) lists (λ v h. subst (λ (ls : List (List ℕ)). Contains ls (f v)) e (mapped f lists v h))

pub choice_ready : (setting : Setting) (predicates : List Predicate) (number : ℕ) (post : Atom) (threads : ℕ) (list of_atom : List ℕ) → Rattle.ps_triple.specs.Tests.IsThere setting predicates number → AreThreadsOf post.threads threads
    → Contains (Rattle.ps_saturate.specs.inner.Arranging.arrangements threads (predicate_of predicates number).arity) of_atom → list ≡ of_atom
    → IsAtomOf setting predicates (record { predicate = number; threads = list }) × HasThreadsOnce (record { predicate = number; threads = list }) × Rattle.ps_triple.specs.Tests.IsTiedTo post.threads (record { predicate = number; threads = list })
choice_ready setting predicates number post threads list of_atom there of arranged same =
    Rattle.ps_saturate.proofs.Arranged.choice_with setting predicates number post threads list there of (Rattle.ps_saturate.proofs.Arranged.arranged_from threads (predicate_of predicates number).arity list (subst (λ (ts : List ℕ). Contains (Rattle.ps_saturate.specs.inner.Arranging.arrangements threads (predicate_of predicates number).arity) ts) (sym same) arranged))

pub push_step : {V : Type 0} (f : V → Atom) (lists : List V) (i : ℕ) (v : V) (done next all : List Atom) → i < length lists → v ≡ get_or lists i v → next ≡ done ++ f v ∷ [] → done ++ map f (drop i lists) ≡ all → next ++ map f (drop (i + 1) lists) ≡ all
push_step {V} f lists i v done next all within is next_is h =
    ap (λ (qs : List Atom). qs ++ map f (drop (i + 1) lists)) next_is
    ∙ append_assoc done (f v ∷ []) (map f (drop (i + 1) lists))
    ∙ ap (λ (vs : List V). done ++ map f vs) (sym (left_at lists i v within is))
    ∙ h

pub push_end : {V : Type 0} (f : V → Atom) (lists : List V) (i : ℕ) (done all : List Atom) → length lists ≤ i → done ++ map f (drop i lists) ≡ all → done ≡ all
push_end {V} f lists i done all end h =
    sym (Rattle.ps_saturate.proofs.Trying.append_nothing done) ∙ ap (λ (vs : List V). done ++ map f vs) (sym (drop_all i lists end)) ∙ h

pub all_choices : {V : Type 0} (number : ℕ) (f : V → List ℕ) (lists : List V) (all : List (List ℕ)) (done list : List Atom) → map f lists ≡ all → done ≡ list ++ map (λ v. Rattle.ps_saturate.specs.inner.Arranging.atom_with number (f v)) lists → done ≡ list ++ map (Rattle.ps_saturate.specs.inner.Arranging.atom_with number) all
all_choices number f lists all done list e h =
    h ∙ ap (λ (qs : List Atom). list ++ qs) (sym (Rattle.ps_list.proofs.Mapped.map_map f (Rattle.ps_saturate.specs.inner.Arranging.atom_with number) lists) ∙ ap (map (Rattle.ps_saturate.specs.inner.Arranging.atom_with number)) e)
