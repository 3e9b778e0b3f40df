-- The list of demands says what the definition demands.
use Rattle.std.proofs.Common.{◌≡◌, ℕ, Bool, true, false, ◌&&◌, ◌==◌, List, [], ◌∷◌, ◌++◌, map, refl, sym, ap, ap₂, ◌∙◌, subst, inl, inr, ◌⊎◌, Contains, Some, None, if◌then◌else◌}
use Rattle.std.proofs.lemmas.Bool.{false≢true, eqb-true, eq-eqb, and_parts, and_from}
use Rattle.std.proofs.lemmas.List.Elements.{All-contains, Contains-append_left, Contains-append_right, Contains-append_cases}
use Rattle.ps_atom.specs.Atoms.{renamed, IsInjectiveOn, threads_of}
use Rattle.ps_atom.specs.declared.atom.Atom.{Atom}
use Rattle.ps_list.proofs.Members.{cons_cases, here, there}
use Rattle.ps_config.specs.Sent.{sent}
use Rattle.ps_list.proofs.Mapped.{flat_mapped, from_flat_mapped, same_map}
use Rattle.ps_config.proofs.Occurring.{renamed_same}
use Rattle.ps_config.proofs.Sent.{sent_image}
use Rattle.ps_triple.specs.declared.triple.Triple.{Triple}
use Rattle.ps_triple.specs.declared.entry.Entry.{Entry}
use Rattle.ps_triple.specs.declared.entry.Entry.TheVariants.{Triple as OfTriple}
use Rattle.ps_triple.specs.Entries.{GivesAtom, threads_in}
use Rattle.ps_triple.specs.Tests.{IsTied, IsTiedTo}
use Rattle.ps_demand.specs.Demands.{is_renaming, demand}
use Rattle.ps_demand.proofs.Sent.{image_is_renaming, sent_all, sent_apart}

-- ---- the threads of a triple

tied_before : (t : Triple) → IsTied t → (s : ℕ) → Contains (threads_of t.pre) s → (s ≡ 0) ⊎ Contains t.post.threads s
tied_before t tied s h =
    let w = from_flat_mapped (λ (q : Atom). q.threads) t.pre s h in
    All-contains (λ (n : ℕ). (n ≡ 0) ⊎ Contains t.post.threads n) w.0.threads s (All-contains (IsTiedTo t.post.threads) t.pre w.0 tied w.1) w.2

-- a tied triple has no thread but 0 and those of the post
pub tied_threads : (t : Triple) → IsTied t → (s : ℕ) → Contains (threads_in t) s → Contains (0 ∷ t.post.threads) s
tied_threads t tied s h = elim (cons_cases 0 (t.post.threads ++ threads_of t.pre) s h) [
  | inl is ↦ subst (λ (x : ℕ). Contains (0 ∷ t.post.threads) x) is (here 0 t.post.threads)
  | inr later ↦ elim (Contains-append_cases t.post.threads (threads_of t.pre) s later) [
    | inl post ↦ there 0 t.post.threads s post
    | inr pre ↦ elim (tied_before t tied s pre) [
      | inl zero_is ↦ subst (λ (x : ℕ). Contains (0 ∷ t.post.threads) x) (sym zero_is) (here 0 t.post.threads)
      | inr post ↦ there 0 t.post.threads s post
    ]
  ]
]

pub post_threads : (t : Triple) (s : ℕ) → Contains (0 ∷ t.post.threads) s → Contains (threads_in t) s
post_threads t s h = elim (cons_cases 0 t.post.threads s h) [
  | inl is ↦ subst (λ (x : ℕ). Contains (threads_in t) x) is (here 0 (t.post.threads ++ threads_of t.pre))
  | inr post ↦ there 0 (t.post.threads ++ threads_of t.pre) s (Contains-append_left t.post.threads (threads_of t.pre) s post)
]

pub pre_threads : (t : Triple) (q : Atom) (s : ℕ) → Contains t.pre q → Contains q.threads s → Contains (threads_in t) s
pre_threads t q s h k =
    there 0 (t.post.threads ++ threads_of t.pre) s (Contains-append_right t.post.threads (threads_of t.pre) s (flat_mapped (λ (q : Atom). q.threads) t.pre q s h k))

-- ---- one triple

abbrev tail_of : List ℕ → List ℕ
tail_of [] = []
tail_of (x ∷ xs) = xs

pub chosen : {X : Type 0} (b : Bool) (x : X) → b ≡ true → (if b then Some x else None) ≡ Some x
chosen true x h = refl
chosen false x h = absurd (false≢true h)

pub of_chosen : {X : Type 0} (b : Bool) (x y : X) → (if b then Some x else None) ≡ Some y → (b ≡ true) × (x ≡ y)
of_chosen true x y h = (refl, (let e : x ≡ y = cc in e))
of_chosen false x y h = absurd (let f : ⊥ = cc in f)

same_pre : (f g : ℕ → ℕ) (t : Triple) → IsTied t → ((s : ℕ) → Contains (0 ∷ t.post.threads) s → f s ≡ g s) → map (renamed f) t.pre ≡ map (renamed g) t.pre
same_pre f g t tied h = same_map (renamed f) (renamed g) t.pre (λ q c. renamed_same f g q (λ s k. h s (tied_threads t tied s (pre_threads t q s c k))))

demand_by : (thread command : ℕ) (q : Atom) (t : Triple) (new : ℕ → ℕ) (us : List ℕ) → us ≡ map new (0 ∷ t.post.threads) → t.command ≡ command → t.post.predicate ≡ q.predicate → IsInjectiveOn new (0 ∷ t.post.threads) → IsTied t
    → (if (t.command == command) && (t.post.predicate == q.predicate) && is_renaming (0 ∷ t.post.threads) us then Some (map (renamed (sent (0 ∷ t.post.threads) us)) t.pre) else None) ≡ Some (map (renamed new) t.pre)
demand_by thread command q t new us is c p apart tied =
    let ss : List ℕ = 0 ∷ t.post.threads in
    let found : is_renaming ss us ≡ true = subst (λ (vs : List ℕ). is_renaming ss vs ≡ true) (sym is) (image_is_renaming new ss apart) in
    let same : map (renamed (sent ss us)) t.pre ≡ map (renamed new) t.pre = same_pre (sent ss us) new t tied (λ s h. ap (λ (vs : List ℕ). sent ss vs s) is ∙ sent_image new ss s h) in
    chosen ((t.command == command) && (t.post.predicate == q.predicate) && is_renaming ss us) (map (renamed (sent ss us)) t.pre)
    (and_from ((t.command == command) && (t.post.predicate == q.predicate)) (is_renaming ss us) (and_from (t.command == command) (t.post.predicate == q.predicate) (eq-eqb t.command command c) (eq-eqb t.post.predicate q.predicate p)) found)
    ∙ ap Some same

-- a renamed triple with this post is demanded
pub renamed_demanded : (thread command : ℕ) (q : Atom) (t : Triple) (new : ℕ → ℕ) → IsTied t → IsInjectiveOn new (threads_in t) → new 0 ≡ thread → t.command ≡ command → q ≡ renamed new t.post
    → demand thread command q (OfTriple t) ≡ Some (map (renamed new) t.pre)
renamed_demanded thread command q t new tied apart runs same post =
    demand_by thread command q t new (thread ∷ q.threads) (ap₂ (λ (x : ℕ) (xs : List ℕ). x ∷ xs) (sym runs) (ap (λ (a : Atom). a.threads) post))
    same (sym (ap (λ (a : Atom). a.predicate) post)) (λ s u hs hu. apart s u (post_threads t s hs) (post_threads t u hu)) tied

-- what is demanded is the pre of a renamed triple
pub demanded_given : (entries : List Entry) (thread command : ℕ) (q : Atom) (t : Triple) (set : List Atom) → IsTied t → Contains entries (OfTriple t) → demand thread command q (OfTriple t) ≡ Some set → GivesAtom entries thread command set q
demanded_given entries thread command q t set tied listed e =
    let ss : List ℕ = 0 ∷ t.post.threads in
    let us : List ℕ = thread ∷ q.threads in
    let c = of_chosen ((t.command == command) && (t.post.predicate == q.predicate) && is_renaming ss us) (map (renamed (sent ss us)) t.pre) set e in
    let tests = and_parts ((t.command == command) && (t.post.predicate == q.predicate)) (is_renaming ss us) c.0 in
    let first = and_parts (t.command == command) (t.post.predicate == q.predicate) tests.0 in
    let all : map (sent ss us) ss ≡ us = sent_all ss us tests.1 in
    let threads : map (sent ss us) t.post.threads ≡ q.threads = ap (λ (xs : List ℕ). tail_of xs) all in
    record {
      triple = t;
      listed = listed;
      same = eqb-true t.command command first.0;
      by = record {
        new = sent ss us;
        apart = λ s u hs hu same. sent_apart ss us tests.1 s u (tied_threads t tied s hs) (tied_threads t tied u hu) same;
        runs = refl;
        pre = sym c.1;
        post = ap₂ (λ (p : ℕ) (xs : List ℕ). let a : Atom = record { predicate = p; threads = xs } in a) (sym (eqb-true t.post.predicate q.predicate first.1)) (sym threads);
      };
    }
