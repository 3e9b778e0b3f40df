-- The steps of a thread are the edges that leave the location at which it is.
use Rattle.std.proofs.Common.{◌≡◌, ◌≢◌, Bool, true, false, ◌==◌, refl, sym, ◌∙◌, ap, subst, ℕ, ℤ, List, [], ◌∷◌, ◌++◌, ◌⊎◌, inl, inr, if◌then◌else◌, eq-eqb}
use Rattle.std.specs.Prelude.{Option, Some, None, option_map, Contains}
use Rattle.std.proofs.lemmas.Bool.{eqb-true}
use Rattle.std.proofs.lemmas.Option.{some_pair_parts}
use Rattle.ps_command.specs.Values.{Values}
use Rattle.ps_command.specs.declared.command.Command.{Command}
use Rattle.ps_graph.proofs.Agreement.{gives, Agree, came, agrees, ways_agree, NotFailing, never_fails, NotNormal, never_normal}
use Rattle.ps_graph.proofs.Choices.{used, after_realised}
use Rattle.ps_graph.proofs.Members.{IsIn, contains_of_in, in_of_contains, in_left, in_right, in_either, in_leaving, of_leaving, in_going, of_going, edge_of, path_of, found_path, sound_path}
use Rattle.ps_graph.specs.Facts.{after_edge}
use Rattle.ps_graph.specs.Follows.{Realises, AreRealised, going_to, leaving, StmtConnects, BlockConnects, RestBeginsAt, ThreadIsAt, along, StepsAreEdges}
use Rattle.ps_graph.specs.Paths.{Act, is_failing, ways, paths}
use Rattle.ps_graph.specs.Step.{Completion, Normal, Failing, Blocked, decided, step_within, Thread, Runs, Failed, completed, chosen, step, step_of}
use Rattle.ps_graph.specs.declared.edge.Edge.{Edge}
use Rattle.ps_tree.specs.declared.cond.Test.{Test}
use Rattle.ps_tree.specs.declared.stmt.Stmt.{Stmt}
use Rattle.ps_tree.specs.declared.stmt.StmtKind.{StmtKind, Assign, Havoc, Assume, Assert, Skip, Atomic', If', While', Row_of-Stmt, end_of-Stmt, more_of-Stmt, items-the_row-Stmt}

abbrev pub at_target : ℕ → Option Values → Option (Values × ℕ)
at_target b o = option_map (λ (w : Values). (w, b)) o

pub along_is : (t : Bool) (o : Option Values) (w : Values) (b : ℕ) → t ≡ true → o ≡ Some w →
    (if t then at_target b o else None) ≡ Some (w, b)
along_is t o w b h e = rw (h, e) refl

pub along_parts : (t : Bool) (o : Option Values) (w : Values) (c b : ℕ) →
    (if t then at_target c o else None) ≡ Some (w, b) → (t ≡ true) × (o ≡ Some w) × (c ≡ b)
along_parts true None w c b h = cc
along_parts true (Some x) w c b h = let q : (x ≡ w) × (c ≡ b) = some_pair_parts x w c b h in (refl, ap Some q.0, q.1)
along_parts false o w c b h = cc

-- the step, if there is one, is along some edge, at whose target the thread then is
abbrev Leads : List Command → List Edge → ℕ → Values → List ℤ → Option (Values × Thread) → Type 0
Leads commands edges a v cs None = Unit {0}
Leads commands edges a v cs (Some q) =
    (e : Edge) × (b : ℕ) × IsIn e edges × (along commands e a v cs ≡ Some (q.0, b)) × ThreadIsAt commands edges q.1 b

-- the step is to these values, and the thread then is at this location
abbrev Comes : List Command → List Edge → Values → ℕ → Option (Values × Thread) → Type 0
Comes commands edges w b o = (u : Thread) × (o ≡ Some (w, u)) × ThreadIsAt commands edges u b

module _ (commands : List Command) (edges : List Edge) where
  -- a path that gives values without a choice left is an edge to its goal, or to the error where it fails
  taken : (a : ℕ) (qs : List (List Act × ℕ)) → AreRealised commands a qs (leaving a edges) → (p : List Act) (goal : ℕ) → IsIn (p, goal) qs →
      (v : Values) (cs : List ℤ) (w : Values) → used (gives p v cs) ≡ Some w →
      (e : Edge) × (b : ℕ) × IsIn e edges × (along commands e a v cs ≡ Some (w, b)) × (b ≡ (if is_failing p then 1 else goal))
  taken a qs d p goal h v cs w u = at (edge_of commands a (p, goal) qs (leaving a edges) d h)
    where
      at : (e : Edge) × IsIn e (leaving a edges) × Realises commands a p goal e →
          (e : Edge) × (b : ℕ) × IsIn e edges × (along commands e a v cs ≡ Some (w, b)) × (b ≡ (if is_failing p then 1 else goal))
      at (e, g, r) = (
        e,
        e.target,
        (of_leaving a e edges g).0,
        along_is (e.source == a) (after_edge commands e v cs) w e.target (eq-eqb e.source a r.source) (after_realised commands a p goal e r v cs ∙ u),
        r.target,
      )

  -- an edge that is taken is of a path
  untaken : (a : ℕ) (qs : List (List Act × ℕ)) → AreRealised commands a qs (leaving a edges) → (e : Edge) → IsIn e edges →
      (v : Values) (cs : List ℤ) (w : Values) (b : ℕ) → along commands e a v cs ≡ Some (w, b) →
      (p : List Act × ℕ) × IsIn p qs × (used (gives p.0 v cs) ≡ Some w) × (b ≡ (if is_failing p.0 then 1 else p.1))
  untaken a qs d e h v cs w b l = at (along_parts (e.source == a) (after_edge commands e v cs) w e.target b l)
    where
      drawn : e.source ≡ a → after_edge commands e v cs ≡ Some w → e.target ≡ b → (p : List Act × ℕ) × IsIn p qs × Realises commands a p.0 p.1 e →
          (p : List Act × ℕ) × IsIn p qs × (used (gives p.0 v cs) ≡ Some w) × (b ≡ (if is_failing p.0 then 1 else p.1))
      drawn s o t (p, g, r) = (p, g, sym (after_realised commands a p.0 p.1 e r v cs) ∙ o, sym t ∙ r.target)

      at : ((e.source == a) ≡ true) × (after_edge commands e v cs ≡ Some w) × (e.target ≡ b) →
          (p : List Act × ℕ) × IsIn p qs × (used (gives p.0 v cs) ≡ Some w) × (b ≡ (if is_failing p.0 then 1 else p.1))
      at (t, o, g) =
          let s : e.source ≡ a = eqb-true e.source a t in
          drawn s o g (path_of commands a e qs (leaving a edges) d (in_leaving a e edges h s))

  -- where a path goes on, its edge goes to the goal; where it fails, to the error
  continues : (p : List Act) (v : Values) (cs : List ℤ) (w : Values) (ds : List ℤ) (b goal : ℕ) → gives p v cs ≡ Normal w ds →
      b ≡ (if is_failing p then 1 else goal) → b ≡ goal
  continues p v cs w ds b goal g t = at (is_failing p) refl t
    where
      at : (f : Bool) → is_failing p ≡ f → b ≡ (if f then 1 else goal) → b ≡ goal
      at true f t = absurd (subst NotNormal g (never_normal p v cs f))
      at false f t = t

  breaks : (p : List Act) (v : Values) (cs : List ℤ) (w : Values) (ds : List ℤ) (b goal : ℕ) → gives p v cs ≡ Failing w ds →
      b ≡ (if is_failing p then 1 else goal) → b ≡ 1
  breaks p v cs w ds b goal g t = at (is_failing p) refl t
    where
      at : (f : Bool) → is_failing p ≡ f → b ≡ (if f then 1 else goal) → b ≡ 1
      at true f t = t
      at false f t = absurd (subst NotFailing g (never_fails p v cs f))

  -- the step of a statement that is run in one go
  settled_leads : (a b : ℕ) (rest : List Stmt) (ps : List (List Act)) (v : Values) (cs : List ℤ) (o : Completion) →
      AreRealised commands a (going_to b ps) (leaving a edges) → RestBeginsAt commands edges rest b → Agree ps v cs o →
      Leads commands edges a v cs (completed rest o)
  settled_leads a b rest ps v cs (Normal w []) d r g = elim g.complete [ inl e ↦ (let no_such : Normal w [] ≡ Blocked = e in cc) | inr f ↦ at (found_path ps v cs (Normal w []) f) ]
    where
      at : (p : List Act) × IsIn p ps × (gives p v cs ≡ Normal w []) → Leads commands edges a v cs (Some (w, Runs rest))
      at (p, h, e) = on (taken a (going_to b ps) d p b (in_going b p ps h) v cs w (ap used e))
        where
          on : (x : Edge) × (y : ℕ) × IsIn x edges × (along commands x a v cs ≡ Some (w, y)) × (y ≡ (if is_failing p then 1 else b)) →
              Leads commands edges a v cs (Some (w, Runs rest))
          on (x, y, i, l, t) = (x, y, i, l, subst (λ (n : ℕ). RestBeginsAt commands edges rest n) (sym (continues p v cs w [] y b e t)) r)
  settled_leads a b rest ps v cs (Normal w (c ∷ ds)) d r g = tt
  settled_leads a b rest ps v cs (Failing w []) d r g = elim g.complete [ inl e ↦ (let no_such : Failing w [] ≡ Blocked = e in cc) | inr f ↦ at (found_path ps v cs (Failing w []) f) ]
    where
      at : (p : List Act) × IsIn p ps × (gives p v cs ≡ Failing w []) → Leads commands edges a v cs (Some (w, Failed))
      at (p, h, e) = on (taken a (going_to b ps) d p b (in_going b p ps h) v cs w (ap used e))
        where
          on : (x : Edge) × (y : ℕ) × IsIn x edges × (along commands x a v cs ≡ Some (w, y)) × (y ≡ (if is_failing p then 1 else b)) →
              Leads commands edges a v cs (Some (w, Failed))
          on (x, y, i, l, t) = (x, y, i, l, breaks p v cs w [] y b e t)
  settled_leads a b rest ps v cs (Failing w (c ∷ ds)) d r g = tt
  settled_leads a b rest ps v cs Blocked d r g = tt

  settled_comes : (a b : ℕ) (rest : List Stmt) (ps : List (List Act)) (v : Values) (cs : List ℤ) (o : Completion) →
      AreRealised commands a (going_to b ps) (leaving a edges) → RestBeginsAt commands edges rest b → Agree ps v cs o →
      (e : Edge) (w : Values) (y : ℕ) → IsIn e edges → along commands e a v cs ≡ Some (w, y) → Comes commands edges w y (completed rest o)
  settled_comes a b rest ps v cs o d r g e w y h l = at (untaken a (going_to b ps) d e h v cs w y l)
    where
      ended : (p : List Act) (x : Completion) → gives p v cs ≡ x → used x ≡ Some w → y ≡ (if is_failing p then 1 else b) →
          (x ≡ Blocked) ⊎ (x ≡ o) → Comes commands edges w y (completed rest o)
      ended p Blocked k u t s = cc
      ended p (Normal x []) k u t (inl n) = let no_such : Normal x [] ≡ Blocked = n in cc
      ended p (Normal x []) k u t (inr n) = (
        Runs rest,
        ap (completed rest) (sym n) ∙ ap (λ (q : Option Values). option_map (λ (m : Values). (m, Runs rest)) q) u,
        subst (λ (i : ℕ). RestBeginsAt commands edges rest i) (sym (continues p v cs x [] y b k t)) r,
      )
      ended p (Normal x (c ∷ ds)) k u t s = cc
      ended p (Failing x []) k u t (inl n) = let no_such : Failing x [] ≡ Blocked = n in cc
      ended p (Failing x []) k u t (inr n) = (
        Failed,
        ap (completed rest) (sym n) ∙ ap (λ (q : Option Values). option_map (λ (m : Values). (m, Failed)) q) u,
        breaks p v cs x [] y b k t,
      )
      ended p (Failing x (c ∷ ds)) k u t s = cc

      at : (p : List Act × ℕ) × IsIn p (going_to b ps) × (used (gives p.0 v cs) ≡ Some w) × (y ≡ (if is_failing p.0 then 1 else p.1)) →
          Comes commands edges w y (completed rest o)
      at (p, i, u, t) =
          let q : IsIn p.0 ps × (p.1 ≡ b) = of_going b p ps i in
          ended p.0 (gives p.0 v cs) refl u (t ∙ ap (λ (n : ℕ). if is_failing p.0 then 1 else n) q.1) (sound_path ps v cs o p.0 g.sound q.0)

  -- the step of a test
  chosen_leads : (a b c : ℕ) (held failed : List Stmt) (t : Test) (v : Values) (cs : List ℤ) →
      AreRealised commands a (going_to b (ways true t) ++ going_to c (ways false t)) (leaving a edges) →
      RestBeginsAt commands edges held b → RestBeginsAt commands edges failed c →
      Leads commands edges a v cs (chosen (decided t v cs) held failed v)
  chosen_leads a b c held failed t v cs d hold fail = at (decided t v cs) (ways_agree true t v cs) (ways_agree false t v cs)
    where
      at : (o : Option (Bool × List ℤ)) → Agree (ways true t) v cs (came true o v) → Agree (ways false t) v cs (came false o v) →
          Leads commands edges a v cs (chosen o held failed v)
      at None g f = tt
      at (Some (true, [])) g f = elim g.complete [ inl e ↦ (let no_such : Normal v [] ≡ Blocked = e in cc) | inr k ↦ on (found_path (ways true t) v cs (Normal v []) k) ]
        where
          on : (p : List Act) × IsIn p (ways true t) × (gives p v cs ≡ Normal v []) → Leads commands edges a v cs (Some (v, Runs held))
          on (p, h, e) = by (taken a (going_to b (ways true t) ++ going_to c (ways false t)) d p b
              (in_left (p, b) (going_to b (ways true t)) (going_to c (ways false t)) (in_going b p (ways true t) h)) v cs v (ap used e))
            where
              by : (x : Edge) × (y : ℕ) × IsIn x edges × (along commands x a v cs ≡ Some (v, y)) × (y ≡ (if is_failing p then 1 else b)) →
                  Leads commands edges a v cs (Some (v, Runs held))
              by (x, y, i, l, n) = (x, y, i, l, subst (λ (m : ℕ). RestBeginsAt commands edges held m) (sym (continues p v cs v [] y b e n)) hold)
      at (Some (true, k ∷ ks)) g f = tt
      at (Some (false, [])) g f = elim f.complete [ inl e ↦ (let no_such : Normal v [] ≡ Blocked = e in cc) | inr k ↦ on (found_path (ways false t) v cs (Normal v []) k) ]
        where
          on : (p : List Act) × IsIn p (ways false t) × (gives p v cs ≡ Normal v []) → Leads commands edges a v cs (Some (v, Runs failed))
          on (p, h, e) = by (taken a (going_to b (ways true t) ++ going_to c (ways false t)) d p c
              (in_right (p, c) (going_to b (ways true t)) (going_to c (ways false t)) (in_going c p (ways false t) h)) v cs v (ap used e))
            where
              by : (x : Edge) × (y : ℕ) × IsIn x edges × (along commands x a v cs ≡ Some (v, y)) × (y ≡ (if is_failing p then 1 else c)) →
                  Leads commands edges a v cs (Some (v, Runs failed))
              by (x, y, i, l, n) = (x, y, i, l, subst (λ (m : ℕ). RestBeginsAt commands edges failed m) (sym (continues p v cs v [] y c e n)) fail)
      at (Some (false, k ∷ ks)) g f = tt

  chosen_comes : (a b c : ℕ) (held failed : List Stmt) (t : Test) (v : Values) (cs : List ℤ) →
      AreRealised commands a (going_to b (ways true t) ++ going_to c (ways false t)) (leaving a edges) →
      RestBeginsAt commands edges held b → RestBeginsAt commands edges failed c →
      (e : Edge) (w : Values) (y : ℕ) → IsIn e edges → along commands e a v cs ≡ Some (w, y) →
      Comes commands edges w y (chosen (decided t v cs) held failed v)
  chosen_comes a b c held failed t v cs d hold fail e w y h l =
      at (untaken a (going_to b (ways true t) ++ going_to c (ways false t)) d e h v cs w y l)
    where
      held_comes : (p : List Act) (goal : ℕ) → goal ≡ b → (o : Option (Bool × List ℤ)) (x : Completion) → gives p v cs ≡ x → used x ≡ Some w →
          y ≡ (if is_failing p then 1 else goal) → (x ≡ Blocked) ⊎ (x ≡ came true o v) → Comes commands edges w y (chosen o held failed v)
      held_comes p goal m o Blocked k u n s = cc
      held_comes p goal m o (Normal q ds) k u n (inl r) = let no_such : Normal q ds ≡ Blocked = r in cc
      held_comes p goal m None (Normal q ds) k u n (inr r) = let no_such : Normal q ds ≡ Blocked = r in cc
      held_comes p goal m (Some (true, [])) (Normal q ds) k u n (inr r) = (
        Runs held,
        ap (λ (o : Option Values). option_map (λ (i : Values). (i, Runs held)) o) (ap used (sym r) ∙ u),
        subst (λ (i : ℕ). RestBeginsAt commands edges held i) (sym (continues p v cs q ds y goal k n ∙ m)) hold,
      )
      held_comes p goal m (Some (true, j ∷ js)) (Normal q ds) k u n (inr r) = let none : None ≡ Some w = ap used (sym r) ∙ u in cc
      held_comes p goal m (Some (false, js)) (Normal q ds) k u n (inr r) = let no_such : Normal q ds ≡ Blocked = r in cc
      held_comes p goal m o (Failing q ds) k u n (inl r) = let no_such : Failing q ds ≡ Blocked = r in cc
      held_comes p goal m None (Failing q ds) k u n (inr r) = let no_such : Failing q ds ≡ Blocked = r in cc
      held_comes p goal m (Some (true, js)) (Failing q ds) k u n (inr r) = let no_such : Failing q ds ≡ Normal v js = r in cc
      held_comes p goal m (Some (false, js)) (Failing q ds) k u n (inr r) = let no_such : Failing q ds ≡ Blocked = r in cc

      failed_comes : (p : List Act) (goal : ℕ) → goal ≡ c → (o : Option (Bool × List ℤ)) (x : Completion) → gives p v cs ≡ x → used x ≡ Some w →
          y ≡ (if is_failing p then 1 else goal) → (x ≡ Blocked) ⊎ (x ≡ came false o v) → Comes commands edges w y (chosen o held failed v)
      failed_comes p goal m o Blocked k u n s = cc
      failed_comes p goal m o (Normal q ds) k u n (inl r) = let no_such : Normal q ds ≡ Blocked = r in cc
      failed_comes p goal m None (Normal q ds) k u n (inr r) = let no_such : Normal q ds ≡ Blocked = r in cc
      failed_comes p goal m (Some (false, [])) (Normal q ds) k u n (inr r) = (
        Runs failed,
        ap (λ (o : Option Values). option_map (λ (i : Values). (i, Runs failed)) o) (ap used (sym r) ∙ u),
        subst (λ (i : ℕ). RestBeginsAt commands edges failed i) (sym (continues p v cs q ds y goal k n ∙ m)) fail,
      )
      failed_comes p goal m (Some (false, j ∷ js)) (Normal q ds) k u n (inr r) = let none : None ≡ Some w = ap used (sym r) ∙ u in cc
      failed_comes p goal m (Some (true, js)) (Normal q ds) k u n (inr r) = let no_such : Normal q ds ≡ Blocked = r in cc
      failed_comes p goal m o (Failing q ds) k u n (inl r) = let no_such : Failing q ds ≡ Blocked = r in cc
      failed_comes p goal m None (Failing q ds) k u n (inr r) = let no_such : Failing q ds ≡ Blocked = r in cc
      failed_comes p goal m (Some (false, js)) (Failing q ds) k u n (inr r) = let no_such : Failing q ds ≡ Normal v js = r in cc
      failed_comes p goal m (Some (true, js)) (Failing q ds) k u n (inr r) = let no_such : Failing q ds ≡ Blocked = r in cc

      at : (p : List Act × ℕ) × IsIn p (going_to b (ways true t) ++ going_to c (ways false t)) × (used (gives p.0 v cs) ≡ Some w)
          × (y ≡ (if is_failing p.0 then 1 else p.1)) → Comes commands edges w y (chosen (decided t v cs) held failed v)
      at (p, i, u, n) = elim (in_either p (going_to b (ways true t)) (going_to c (ways false t)) i) [
        | inl j ↦ (let q : IsIn p.0 (ways true t) × (p.1 ≡ b) = of_going b p (ways true t) j in
            held_comes p.0 p.1 q.1 (decided t v cs) (gives p.0 v cs) refl u n
            (sound_path (ways true t) v cs (came true (decided t v cs) v) p.0 (ways_agree true t v cs).sound q.0))
        | inr j ↦ (let q : IsIn p.0 (ways false t) × (p.1 ≡ c) = of_going c p (ways false t) j in
            failed_comes p.0 p.1 q.1 (decided t v cs) (gives p.0 v cs) refl u n
            (sound_path (ways false t) v cs (came false (decided t v cs) v) p.0 (ways_agree false t v cs).sound q.0))
      ]

  -- a block before a rest
  join : {n : _} (block : Row_of-Stmt n) (rest : List Stmt) (a b : ℕ) → BlockConnects commands edges block a b →
      RestBeginsAt commands edges rest b → RestBeginsAt commands edges (items-the_row-Stmt _ block ++ rest) a
  join end_of-Stmt rest a b h r = subst (λ (i : ℕ). RestBeginsAt commands edges rest i) (sym h) r
  join (more_of-Stmt _ k block) rest a b (c, ne, s, h) r = (c, ne, s, join block rest c b h r)

  -- the step of a statement of a kind
  kind_leads : (s : Stmt) (k : StmtKind) → s.kind ≡ k → (rest : List Stmt) (a b : ℕ) → a ≢ 1 → StmtConnects commands edges k a b →
      RestBeginsAt commands edges rest b → (v : Values) (cs : List ℤ) → Leads commands edges a v cs (step_of s k rest v cs)
  kind_leads s (Assign x m) e rest a b ne d r v cs = settled_leads a b rest (paths (Assign x m)) v cs _ d r (agrees (Assign x m) v cs)
  kind_leads s (Havoc x) e rest a b ne d r v cs = settled_leads a b rest (paths (Havoc x)) v cs (step_within (Havoc x) v cs) d r (agrees (Havoc x) v cs)
  kind_leads s (Assume c) e rest a b ne d r v cs = settled_leads a b rest (paths (Assume c)) v cs (step_within (Assume c) v cs) d r (agrees (Assume c) v cs)
  kind_leads s (Assert c) e rest a b ne d r v cs = settled_leads a b rest (paths (Assert c)) v cs (step_within (Assert c) v cs) d r (agrees (Assert c) v cs)
  kind_leads s Skip e rest a b ne d r v cs = settled_leads a b rest (paths Skip) v cs _ d r (agrees Skip v cs)
  kind_leads s (Atomic' n block) e rest a b ne d r v cs =
      settled_leads a b rest (paths (Atomic' n block)) v cs (step_within (Atomic' n block) v cs) d r (agrees (Atomic' n block) v cs)
  kind_leads s (If' t n held m failed) e rest a b ne (i, j, d, h, f) r v cs =
      chosen_leads a i j (items-the_row-Stmt _ held ++ rest) (items-the_row-Stmt _ failed ++ rest) t v cs d (join held rest i b h r) (join failed rest j b f r)
  kind_leads s (While' t n block) e rest a b ne (i, d, h) r v cs =
      chosen_leads a i b (items-the_row-Stmt _ block ++ s ∷ rest) rest t v cs d (join block (s ∷ rest) i a h again) r
    where
      again : RestBeginsAt commands edges (s ∷ rest) a
      again = (b, ne, subst (λ (k : StmtKind). StmtConnects commands edges k a b) (sym e) (i, d, h), r)

  kind_comes : (s : Stmt) (k : StmtKind) → s.kind ≡ k → (rest : List Stmt) (a b : ℕ) → a ≢ 1 → StmtConnects commands edges k a b →
      RestBeginsAt commands edges rest b → (v : Values) (cs : List ℤ) (e : Edge) (w : Values) (y : ℕ) → IsIn e edges →
      along commands e a v cs ≡ Some (w, y) → Comes commands edges w y (step_of s k rest v cs)
  kind_comes s (Assign x m) q rest a b ne d r v cs e w y h l = settled_comes a b rest (paths (Assign x m)) v cs _ d r (agrees (Assign x m) v cs) e w y h l
  kind_comes s (Havoc x) q rest a b ne d r v cs e w y h l =
      settled_comes a b rest (paths (Havoc x)) v cs (step_within (Havoc x) v cs) d r (agrees (Havoc x) v cs) e w y h l
  kind_comes s (Assume c) q rest a b ne d r v cs e w y h l =
      settled_comes a b rest (paths (Assume c)) v cs (step_within (Assume c) v cs) d r (agrees (Assume c) v cs) e w y h l
  kind_comes s (Assert c) q rest a b ne d r v cs e w y h l =
      settled_comes a b rest (paths (Assert c)) v cs (step_within (Assert c) v cs) d r (agrees (Assert c) v cs) e w y h l
  kind_comes s Skip q rest a b ne d r v cs e w y h l = settled_comes a b rest (paths Skip) v cs _ d r (agrees Skip v cs) e w y h l
  kind_comes s (Atomic' n block) q rest a b ne d r v cs e w y h l =
      settled_comes a b rest (paths (Atomic' n block)) v cs (step_within (Atomic' n block) v cs) d r (agrees (Atomic' n block) v cs) e w y h l
  kind_comes s (If' t n held m failed) q rest a b ne (i, j, d, h, f) r v cs e w y g l =
      chosen_comes a i j (items-the_row-Stmt _ held ++ rest) (items-the_row-Stmt _ failed ++ rest) t v cs d (join held rest i b h r) (join failed rest j b f r) e w y g l
  kind_comes s (While' t n block) q rest a b ne (i, d, h) r v cs e w y g l =
      chosen_comes a i b (items-the_row-Stmt _ block ++ s ∷ rest) rest t v cs d (join block (s ∷ rest) i a h again) r e w y g l
    where
      again : RestBeginsAt commands edges (s ∷ rest) a
      again = (b, ne, subst (λ (k : StmtKind). StmtConnects commands edges k a b) (sym q) (i, d, h), r)

  thread_leads : (t : Thread) (a : ℕ) → ThreadIsAt commands edges t a → (v : Values) (cs : List ℤ) → Leads commands edges a v cs (step t v cs)
  thread_leads Failed a h v cs = tt
  thread_leads (Runs []) a h v cs = tt
  thread_leads (Runs (s ∷ rest)) a (b, ne, d, r) v cs = kind_leads s s.kind refl rest a b ne d r v cs

  -- no edge leaves this location
  none_leaves : (a : ℕ) → leaving a edges ≡ [] → (e : Edge) → IsIn e edges → (v : Values) (cs : List ℤ) (w : Values) (y : ℕ) →
      along commands e a v cs ≡ Some (w, y) → ⊥
  none_leaves a n e h v cs w y l =
      let q : ((e.source == a) ≡ true) × (after_edge commands e v cs ≡ Some w) × (e.target ≡ y) = along_parts (e.source == a) (after_edge commands e v cs) w e.target y l in
      subst (λ (es : List Edge). IsIn e es) n (in_leaving a e edges h (eqb-true e.source a q.0))

  thread_comes : leaving 1 edges ≡ [] → (t : Thread) (a : ℕ) → ThreadIsAt commands edges t a →
      (v : Values) (cs : List ℤ) (e : Edge) (w : Values) (y : ℕ) → IsIn e edges → along commands e a v cs ≡ Some (w, y) →
      Comes commands edges w y (step t v cs)
  thread_comes no_error Failed a h v cs e w y i l =
      absurd (none_leaves 1 no_error e i v cs w y (subst (λ (n : ℕ). along commands e n v cs ≡ Some (w, y)) h l))
  thread_comes no_error (Runs []) a (ne, none) v cs e w y i l = absurd (none_leaves a none e i v cs w y l)
  thread_comes no_error (Runs (s ∷ rest)) a (b, ne, d, r) v cs e w y i l = kind_comes s s.kind refl rest a b ne d r v cs e w y i l

  -- the steps of a thread are the edges, both ways
  pub steps_are_edges : leaving 1 edges ≡ [] → StepsAreEdges commands edges
  steps_are_edges no_error = record {
    forth = λ t a h v cs w u e. member a v cs w u (subst (λ (o : Option (Values × Thread)). Leads commands edges a v cs o) e (thread_leads t a h v cs));
    back = λ t a h v cs e w b i l. thread_comes no_error t a h v cs e w b (in_of_contains e edges i) l;
  }
    where
      member : (a : ℕ) (v : Values) (cs : List ℤ) (w : Values) (u : Thread) → Leads commands edges a v cs (Some (w, u)) →
          (e : Edge) × (b : ℕ) × Contains edges e × (along commands e a v cs ≡ Some (w, b)) × ThreadIsAt commands edges u b
      member a v cs w u (e, b, i, l, h) = (e, b, contains_of_in e edges i, l, h)

-- a thread is at the error exactly where it is Failed
pub failed_at_error : (commands : List Command) (edges : List Edge) (t : Thread) (a : ℕ) → ThreadIsAt commands edges t a →
    (a ≡ 1 → t ≡ Failed) × (t ≡ Failed → a ≡ 1)
failed_at_error commands edges Failed a h = (λ e. refl, λ e. h)
failed_at_error commands edges (Runs []) a (ne, none) = (λ e. absurd (ne e), λ e. (let no_such : Runs [] ≡ Failed = e in cc))
failed_at_error commands edges (Runs (s ∷ rest)) a (b, ne, d, r) = (λ e. absurd (ne e), λ e. (let no_such : Runs (s ∷ rest) ≡ Failed = e in cc))
