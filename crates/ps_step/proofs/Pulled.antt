-- What stands from a configuration is covered by what stands from one that covers it.
use Rattle.std.proofs.Common.{◌≡◌, ◌≢◌, ℕ, Bool, true, false, ◌&&◌, ◌==◌, List, [], ◌∷◌, map, refl, sym, ap, ◌∙◌, subst, inl, inr, ◌⊎◌, Contains, if◌then◌else◌}
use Rattle.std.specs.List.{filter}
use Rattle.std.proofs.lemmas.Bool.{false≢true, eqb-true, eqb-false, eq-eqb, and_parts, and_from, cases_eq}
use Rattle.ps_atom.specs.Atoms.{renamed, IsInjectiveOn}
use Rattle.ps_atom.specs.declared.atom.Atom.{Atom}
use Rattle.ps_list.proofs.Members.{nothing, cons_cases, here, there}
use Rattle.ps_config.specs.Configurations.{Configuration, IsAt, threads_at, Embeds, Covers}
use Rattle.ps_list.proofs.Mapped.{mapped, from_mapped, kept, from_kept}
use Rattle.ps_list.proofs.Numbers.{is_in}
use Rattle.ps_config.proofs.Covering.{covers_more}
use Rattle.ps_config.proofs.Occurring.{located_occurs, named_occurs, occurs_cases, renamed_same, renamed_twice, renamed_stays, of_renamed}
use Rattle.ps_graph.specs.declared.edge.Edge.{Edge}
use Rattle.ps_graph.specs.declared.graph.Graph.{Graph}
use Rattle.ps_triple.specs.declared.entry.Entry.{Entry}
use Rattle.ps_triple.specs.declared.entry.Entry.TheVariants.{Triple as OfTriple}
use Rattle.ps_triple.specs.Entries.{GivesAtom, threads_in}
use Rattle.ps_triple.specs.Tests.{IsTied}
use Rattle.ps_step.specs.inner.Back.{moved_at}
use Rattle.ps_config.specs.Forms.{start_configuration}
use Rattle.ps_step.specs.Steps.{IsDue, StandsBy}
use Rattle.ps_demand.specs.Demands.{AreTied}
use Rattle.ps_step.proofs.Moved.{moved_at_is}
use Rattle.ps_demand.proofs.Picked.{twice_all}
use Rattle.ps_demand.proofs.Demanding.{tied_threads, pre_threads}

-- ---- the renaming with another value at the mover

abbrev with_mover : (ℕ → ℕ) → ℕ → ℕ → ℕ → ℕ
with_mover new mover k t = if t == mover then k else new t

-- the mover goes to k: it occurs and does so already, or is new, and then no other goes to k
abbrev pub IsMover : Configuration → (ℕ → ℕ) → ℕ → ℕ → Type 0
IsMover small new k mover =
    (Contains (threads_at small) mover × (new mover ≡ k)) ⊎ ((¬ Contains (threads_at small) mover) × ((t : ℕ) → Contains (threads_at small) t → new t ≢ k))

to_mover : (new : ℕ → ℕ) (mover k t : ℕ) → t ≡ mover → with_mover new mover k t ≡ k
to_mover new mover k t e = at (t == mover) (eq-eqb t mover e)
  where
    at : (b : Bool) → b ≡ true → (if b then k else new t) ≡ k
    at true h = refl
    at false h = absurd (false≢true h)

to_other : (new : ℕ → ℕ) (mover k t : ℕ) → t ≢ mover → with_mover new mover k t ≡ new t
to_other new mover k t n = at (t == mover) refl
  where
    at : (b : Bool) → (t == mover) ≡ b → (if b then k else new t) ≡ new t
    at true h = absurd (n (eqb-true t mover h))
    at false h = refl

-- a thread that occurs goes where it went
to_same : (small : Configuration) (new : ℕ → ℕ) (k mover : ℕ) → IsMover small new k mover → (t : ℕ) → Contains (threads_at small) t → with_mover new mover k t ≡ new t
to_same small new k mover (inl old) t h = elim (cases_eq t mover) [
  | inl is ↦ to_mover new mover k t is ∙ (sym old.1 ∙ ap new (sym is))
  | inr other ↦ to_other new mover k t other
]
to_same small new k mover (inr fresh) t h = elim (cases_eq t mover) [
  | inl is ↦ absurd (fresh.0 (subst (λ (x : ℕ). Contains (threads_at small) x) is h))
  | inr other ↦ to_other new mover k t other
]

-- a thread that goes to k is the mover
only_mover : (small : Configuration) (new : ℕ → ℕ) (k mover : ℕ) → IsInjectiveOn new (threads_at small) → IsMover small new k mover → (t : ℕ) → Contains (threads_at small) t → new t ≡ k → t ≡ mover
only_mover small new k mover apart (inl old) t h e = apart t mover h old.0 (e ∙ sym old.1)
only_mover small new k mover apart (inr fresh) t h e = absurd (fresh.1 t h e)

with_mover_apart : (small : Configuration) (new : ℕ → ℕ) (k mover : ℕ) → IsInjectiveOn new (threads_at small) → IsMover small new k mover → IsInjectiveOn (with_mover new mover k) (mover ∷ threads_at small)
with_mover_apart small new k mover apart is s t hs ht same = elim (cons_cases mover (threads_at small) s hs) [
  | inl ms ↦ elim (cons_cases mover (threads_at small) t ht) [
    | inl mt ↦ sym ms ∙ mt
    | inr later ↦ sym ms ∙ sym (only_mover small new k mover apart is t later (sym (to_same small new k mover is t later) ∙ (sym same ∙ to_mover new mover k s (sym ms))))
  ]
  | inr first ↦ elim (cons_cases mover (threads_at small) t ht) [
    | inl mt ↦ only_mover small new k mover apart is s first (sym (to_same small new k mover is s first) ∙ (same ∙ to_mover new mover k t (sym mt))) ∙ mt
    | inr later ↦ apart s t first later (sym (to_same small new k mover is s first) ∙ (same ∙ to_same small new k mover is t later))
  ]
]

-- ---- the way back from images

-- the first of the numbers that goes to u, or else this one
abbrev back : (ℕ → ℕ) → List ℕ → ℕ → ℕ → ℕ
back f [] d u = d
back f (t ∷ ts) d u = if f t == u then t else back f ts d u

back_cases : (f : ℕ → ℕ) (ts : List ℕ) (d u : ℕ) → Contains ts (back f ts d u) ⊎ (d ≡ back f ts d u)
back_cases f [] d u = inr refl
back_cases f (t ∷ ts) d u = at (f t == u) (back_cases f ts d u)
  where
    at : (b : Bool) → Contains ts (back f ts d u) ⊎ (d ≡ back f ts d u) → Contains (t ∷ ts) (if b then t else back f ts d u) ⊎ (d ≡ (if b then t else back f ts d u))
    at true rest = inl (here t ts)
    at false (inl in_rest) = inl (there t ts (back f ts d u) in_rest)
    at false (inr is) = inr is

back_in : (f : ℕ → ℕ) (ts : List ℕ) (d u : ℕ) → Contains ts d → Contains ts (back f ts d u)
back_in f ts d u h = elim (back_cases f ts d u) [ inl in_list ↦ in_list | inr is ↦ subst (λ (x : ℕ). Contains ts x) is h ]

back_is : (f : ℕ → ℕ) (ts : List ℕ) (d t : ℕ) → IsInjectiveOn f ts → Contains ts t → back f ts d (f t) ≡ t
back_is f [] d t apart h = absurd (nothing t h)
back_is f (s ∷ ts) d t apart h = at (f s == f t) refl (λ later. back_is f ts d t (λ u v hu hv e. apart u v (there s ts u hu) (there s ts v hv) e) later)
  where
    at : (b : Bool) → (f s == f t) ≡ b → (Contains ts t → back f ts d (f t) ≡ t) → (if b then s else back f ts d (f t)) ≡ t
    at true e rest = apart s t (here s ts) h (eqb-true (f s) (f t) e)
    at false e rest = elim (cons_cases s ts t h) [
      | inl is ↦ absurd (eqb-false (f s) (f t) e (ap f is))
      | inr later ↦ rest later
    ]

-- the function leaves each of the numbers
abbrev fixes : (ℕ → ℕ) → List ℕ → Bool
fixes g [] = true
fixes g (t ∷ ts) = (g t == t) && fixes g ts

fixes_each : (g : ℕ → ℕ) (ts : List ℕ) → fixes g ts ≡ true → (t : ℕ) → Contains ts t → g t ≡ t
fixes_each g [] h t c = absurd (nothing t c)
fixes_each g (s ∷ ts) h t c =
    let both = and_parts (g s == s) (fixes g ts) h in
    elim (cons_cases s ts t c) [
      | inl is ↦ subst (λ (x : ℕ). g x ≡ x) is (eqb-true (g s) s both.0)
      | inr later ↦ fixes_each g ts both.1 t later
    ]

each_fixes : (g : ℕ → ℕ) (ts : List ℕ) → ((t : ℕ) → Contains ts t → g t ≡ t) → fixes g ts ≡ true
each_fixes g [] h = refl
each_fixes g (s ∷ ts) h = and_from (g s == s) (fixes g ts) (eq-eqb (g s) s (h s (here s ts))) (each_fixes g ts (λ t c. h t (there s ts t c)))

-- ---- the configuration that is pulled back

-- the atoms all of whose threads are images, with their threads taken back
abbrev taken_back : (ℕ → ℕ) → (ℕ → ℕ) → List Atom → List Atom
taken_back f inverse atoms = map (renamed inverse) (filter (λ (q : Atom). fixes (λ u. f (inverse u)) q.threads) atoms)

taken_goes : (f inverse : ℕ → ℕ) (atoms : List Atom) (q : Atom) → Contains (taken_back f inverse atoms) q → Contains atoms (renamed f q)
taken_goes f inverse atoms q h =
    let w = from_mapped (renamed inverse) (filter (λ (q : Atom). fixes (λ u. f (inverse u)) q.threads) atoms) q h in
    let v = from_kept (λ (q : Atom). fixes (λ u. f (inverse u)) q.threads) atoms w.0 w.1 in
    let is : renamed f q ≡ w.0 = ap (renamed f) (sym w.2) ∙ (renamed_twice inverse f w.0 ∙ renamed_stays (λ u. f (inverse u)) w.0 (fixes_each (λ u. f (inverse u)) w.0.threads v.1)) in
    subst (λ (x : Atom). Contains atoms x) (sym is) v.0

goes_taken : (f inverse : ℕ → ℕ) (atoms : List Atom) (q : Atom) → ((t : ℕ) → Contains q.threads t → inverse (f t) ≡ t) → Contains atoms (renamed f q) → Contains (taken_back f inverse atoms) q
goes_taken f inverse atoms q h c =
    let stays : fixes (λ u. f (inverse u)) (renamed f q).threads ≡ true =
    each_fixes (λ u. f (inverse u)) (renamed f q).threads (λ u k. (let w = of_renamed f q u k in subst (λ (x : ℕ). f (inverse x) ≡ x) w.2 (ap f (h w.0 w.1)))) in
    let is : renamed inverse (renamed f q) ≡ q = renamed_twice f inverse q ∙ renamed_stays (λ t. inverse (f t)) q h in
    subst (λ (x : Atom). Contains (taken_back f inverse atoms) x) is
    (mapped (renamed inverse) (filter (λ (q : Atom). fixes (λ u. f (inverse u)) q.threads) atoms) (renamed f q) (kept (λ (q : Atom). fixes (λ u. f (inverse u)) q.threads) atoms (renamed f q) c stays))

-- the threads of a renamed triple are the mover or those of its post
pub given_threads : (entries : List Entry) (thread command : ℕ) (a : List Atom) (q : Atom) (g : GivesAtom entries thread command a q) → IsTied g.triple
    → (s : ℕ) → Contains (threads_in g.triple) s → (thread ≡ g.by.new s) ⊎ Contains q.threads (g.by.new s)
given_threads entries thread command a q g tied s h = elim (cons_cases 0 g.triple.post.threads s (tied_threads g.triple tied s h)) [
  | inl zero_is ↦ inl (sym g.by.runs ∙ ap g.by.new zero_is)
  | inr in_post ↦ inr (subst (λ (r : Atom). Contains r.threads (g.by.new s)) (sym g.by.post) (mapped g.by.new g.triple.post.threads s in_post))
]

-- a step of the large one gives a step of the small one
pub pulled_back : (graph : Graph) (entries : List Entry) (small large to : Configuration) (new : ℕ → ℕ) (edge : Edge) (k mover : ℕ)
    → AreTied entries → Embeds small large new → StandsBy graph entries large edge k to
    → IsDue small edge mover → IsAt small mover edge.target ⊎ ((l : ℕ) → ¬ IsAt small mover l) → IsMover small new k mover
    → (less : Configuration) × StandsBy graph entries small edge mover less × Covers less to
pulled_back graph entries small large to new edge k mover tied e s due was is =
    let f : ℕ → ℕ = with_mover new mover k in
    let domain : List ℕ = mover ∷ threads_at small in
    let inverse : ℕ → ℕ = back f domain mover in
    let apart : IsInjectiveOn f domain = with_mover_apart small new k mover e.apart is in
    let atoms : List Atom = taken_back f inverse to.atoms in
    let less : Configuration = record { at = moved_at small.at mover edge.source; atoms = atoms } in
    let occurs : (t : ℕ) → Contains (threads_at less) t → Contains domain t =
    λ t h. elim (occurs_cases less t h) [
      | inl at ↦ elim ((moved_at_is small mover edge.source atoms t at.0).0 at.1) [
        | inl first ↦ subst (λ (x : ℕ). Contains domain x) (sym first.0) (here mover (threads_at small))
        | inr later ↦ there mover (threads_at small) t (located_occurs small t at.0 later.1)
      ]
      | inr named ↦
          let w = from_mapped (renamed inverse) (filter (λ (q : Atom). fixes (λ u. f (inverse u)) q.threads) to.atoms) named.0 named.1 in
          let v = of_renamed inverse w.0 t (subst (λ (q : Atom). Contains q.threads t) (sym w.2) named.2) in
          subst (λ (x : ℕ). Contains domain x) v.2 (back_in f domain mover v.0 (here mover (threads_at small)))
    ] in
    let located : (t l : ℕ) → IsAt less t l → IsAt to (f t) l =
    λ t l h. elim ((moved_at_is small mover edge.source atoms t l).0 h) [
      | inl first ↦ (s.goes.is (f t) l).1 (inl (to_mover new mover k t first.0, first.1))
      | inr later ↦
          let old : Contains (threads_at small) t = located_occurs small t l later.1 in
          let same : f t ≡ new t = to_same small new k mover is t old in
          (s.goes.is (f t) l).1 (inr ((λ same_k. later.0 (only_mover small new k mover e.apart is t old (sym same ∙ same_k))), subst (λ (x : ℕ). IsAt large x l) (sym same) (e.located t l later.1)))
    ] in
    let embeds : Embeds less to f = record {
      apart = λ t u ht hu same. apart t u (occurs t ht) (occurs u hu) same;
      located = located;
      atoms = λ q h. taken_goes f inverse to.atoms q h;
    } in (
      less,
      record {
        goes = record {
          due = due;
          was = was;
          is = moved_at_is small mover edge.source atoms;
          once = λ t u l m ht hu ol om. apart t u (occurs t (located_occurs less t l ht)) (occurs u (located_occurs less u m hu)) (s.goes.once (f t) (f u) l m (located t l ht) (located u m hu) ol om);
        };
        meets = λ q a has g.
            let in_domain : (t : ℕ) → Contains (threads_in g.triple) t → Contains domain (g.by.new t) =
            λ t h. elim (given_threads entries mover edge.command a q g (tied (OfTriple g.triple) g.listed) t h) [
              | inl first ↦ subst (λ (x : ℕ). Contains domain x) first (here mover (threads_at small))
              | inr later ↦ there mover (threads_at small) (g.by.new t) (named_occurs small q (g.by.new t) has later)
            ] in
            let in_large : Contains large.atoms (renamed f q) = subst (λ (r : Atom). Contains large.atoms r) (sym (renamed_same f new q (λ t h. to_same small new k mover is t (named_occurs small q t has h)))) (e.atoms q has) in
            let given = s.meets (renamed f q) (map (renamed f) a) in_large (record {
              triple = g.triple;
              listed = g.listed;
              same = g.same;
              by = record {
                new = λ t. f (g.by.new t);
                apart = λ t u ht hu same. g.by.apart t u ht hu (apart (g.by.new t) (g.by.new u) (in_domain t ht) (in_domain u hu) same);
                runs = ap f g.by.runs ∙ to_mover new mover k mover refl;
                pre = ap (map (renamed f)) g.by.pre ∙ twice_all f g.by.new g.triple.pre;
                post = ap (renamed f) g.by.post ∙ renamed_twice g.by.new f g.triple.post;
              };
            }) in
            let w = from_mapped (renamed f) a given.0 given.1 in
            let v = from_mapped (renamed g.by.new) g.triple.pre w.0 (subst (λ (qs : List Atom). Contains qs w.0) g.by.pre w.1) in (
              w.0,
              w.1,
              goes_taken f inverse to.atoms w.0
                  (λ t h. (let u = of_renamed g.by.new v.0 t (subst (λ (r : Atom). Contains r.threads t) (sym v.2) h) in
                  subst (λ (x : ℕ). inverse (f x) ≡ x) u.2 (back_is f domain mover (g.by.new u.0) apart (in_domain u.0 (pre_threads g.triple v.0 u.0 v.1 u.1)))))
                  (subst (λ (r : Atom). Contains to.atoms r) (sym w.2) given.2),
            );
      },
      (f, embeds),
    )

-- ---- one fresh thread is enough

fresh_due : (from : Configuration) (edge : Edge) (k fresh : ℕ) → (¬ Contains (threads_at from) k) → IsDue from edge k → IsDue from edge fresh
fresh_due from edge k fresh new (inl first) =
    absurd (new (subst (λ (c : Configuration). Contains (threads_at c) k) (sym first.0) (subst (λ (x : ℕ). Contains (threads_at start_configuration) x) (sym first.2) (here 0 []))))
fresh_due from edge k fresh new (inr other) = inr other

-- what stands by a thread that doesn't occur covers one that stands by any other that doesn't
pub by_fresh : (graph : Graph) (entries : List Entry) (from to : Configuration) (edge : Edge) (k fresh : ℕ) → AreTied entries
    → (¬ Contains (threads_at from) k) → (¬ Contains (threads_at from) fresh) → StandsBy graph entries from edge k to
    → (less : Configuration) × StandsBy graph entries from edge fresh less × Covers less to
by_fresh graph entries from to edge k fresh tied new free s =
    pulled_back graph entries from from to (λ t. t) edge k fresh tied (record {
      apart = λ t u ht hu same. same;
      located = λ t l h. h;
      atoms = λ q h. subst (λ (x : Atom). Contains from.atoms x) (sym (renamed_stays (λ t. t) q (λ t k. refl))) h;
    }) s (fresh_due from edge k fresh new s.goes.due) (inr (λ l h. free (located_occurs from fresh l h)))
    (inr (free, λ t h e. new (subst (λ (x : ℕ). Contains (threads_at from) x) e h)))

pub by_any : (graph : Graph) (entries : List Entry) (from to : Configuration) (edge : Edge) (thread fresh : ℕ) → AreTied entries
    → (¬ Contains (threads_at from) fresh) → StandsBy graph entries from edge thread to
    → (k : ℕ) × (less : Configuration) × (Contains (threads_at from) k ⊎ (k ≡ fresh)) × StandsBy graph entries from edge k less × Covers less to
by_any graph entries from to edge thread fresh tied free s = elim (is_in (threads_at from) thread) [
  | inl occurs ↦ (thread, to, inl occurs, s, covers_more to to (λ t l h. h) (λ q h. h))
  | inr new ↦ (let w = by_fresh graph entries from to edge thread fresh tied new free s in (fresh, w.0, inr refl, w.1, w.2))
]
