-- Edges that are tried one after another.
use Rattle.std.proofs.Common.{◌≡◌, Bool, true, false, ◌==◌, refl, sym, ap, ap₂, ◌∙◌, subst, ℕ, zero, suc, ◌<◌, ◌+◌, ℤ, List, [], ◌∷◌, length, drop, get_or, if◌then◌else◌, eqb-true, eq-eqb, arith}
use Rattle.std.specs.Prelude.{Contains, Option, Some, None, option_map, slice_get, unwrap_or, IsFalse}
use Rattle.std.specs.List.{AllByRecursion, list_all}
use Rattle.std.specs.Option.{option_and_then}
use Rattle.std.proofs.lemmas.List.{drop_more}
use Rattle.std.proofs.lemmas.Option.{same_Some, slice_get-get_or}
use Rattle.ps_command.proofs.Sizes.{SameSizes, run_sizes}
use Rattle.ps_command.specs.Commands.{ops_of}
use Rattle.ps_command.specs.Named.{is_declared_command, is_declared_op}
use Rattle.ps_command.specs.Run.{havocs_in, run}
use Rattle.ps_command.specs.RunFits.{RunFits}
use Rattle.ps_command.specs.Values.{Values}
use Rattle.ps_command.specs.declared.command.Command.{Command}
use Rattle.ps_command.specs.declared.op.Op.{Op}
use Rattle.ps_command.specs.declared.setting.Setting.{Setting}
use Rattle.ps_graph.proofs.Letters.{havocs_count}
use Rattle.ps_graph.proofs.Members.{in_of_contains}
use Rattle.ps_graph.proofs.Strides.{picks_count}
use Rattle.ps_graph.specs.Facts.{after_edge}
use Rattle.ps_graph.specs.Follows.{leaving}
use Rattle.ps_graph.specs.Picks.{havocs_of}
use Rattle.ps_graph.specs.declared.edge.Edge.{Edge}
use Rattle.ps_graph.specs.declared.graph.Graph.{Graph}
use Rattle.ps_trace.proofs.Exiting.{get_default}
use Rattle.ps_trace.proofs.Owning.{all_at, has_command}
use Rattle.ps_trace.specs.Replay.{along_first, EdgeFits, or_else, TriesFit}
use Rattle.ps_trace.specs.inner.Leaving.{AreLeaving, edges_by, no_edge}
use Rattle.ps_trace.specs.inner.Trying.{along_listed, AreSized, ListedFit}

false_true : false ≡ true → ⊥
false_true e = cc

some_none : {X : Type 0} (x : X) → None ≡ Some x → ⊥
some_none x e = cc

map_none : {X Y : Type 0} (f : X → Y) (o : Option X) → option_map f o ≡ None → o ≡ None
map_none f None e = refl
map_none f (Some x) e = absurd (some_none (f x) (sym e))

-- ---- of all edges those that leave the location are tried
abbrev stepped : Edge → Option Values → Option (Values × ℕ)
stepped e o = option_map (λ (w : Values). (w, e.target)) o

pub listed_is : (commands : List Command) (edges : List Edge) (a : ℕ) (v : Values) (cs : List ℤ) → along_first commands edges a v cs ≡ along_listed commands (leaving a edges) v cs
listed_is commands [] a v cs = refl
listed_is commands (e ∷ es) a v cs = at (e.source == a) (listed_is commands es a v cs)
  where
    at : (t : Bool) → along_first commands es a v cs ≡ along_listed commands (leaving a es) v cs →
        or_else (if t then stepped e (after_edge commands e v cs) else None) (along_first commands es a v cs)
        ≡ along_listed commands (if t then e ∷ leaving a es else leaving a es) v cs
    at true h = ap (or_else (stepped e (after_edge commands e v cs))) h
    at false h = h

pub listed_fit : (commands : List Command) (edges : List Edge) (a : ℕ) (v : Values) (cs : List ℤ) → TriesFit commands edges a v cs → ListedFit commands (leaving a edges) v cs
listed_fit commands [] a v cs h = tt
listed_fit commands (e ∷ es) a v cs h = at (e.source == a) refl h.1 (λ g. listed_fit commands es a v cs g)
  where
    at : (t : Bool) → (e.source == a) ≡ t → ((if t then stepped e (after_edge commands e v cs) else None) ≡ None → TriesFit commands es a v cs) →
        (TriesFit commands es a v cs → ListedFit commands (leaving a es) v cs) → ListedFit commands (if t then e ∷ leaving a es else leaving a es) v cs
    at true t later rest = (h.0 (eqb-true e.source a t), λ n. rest (later (ap (stepped e) n)))
    at false t later rest = rest (later refl)

pub tries_fit : (commands : List Command) (edges : List Edge) (a : ℕ) (v : Values) (cs : List ℤ) → ListedFit commands (leaving a edges) v cs → TriesFit commands edges a v cs
tries_fit commands [] a v cs h = tt
tries_fit commands (e ∷ es) a v cs h = at (e.source == a) refl h (λ g. tries_fit commands es a v cs g)
  where
    at : (t : Bool) → (e.source == a) ≡ t → ListedFit commands (if t then e ∷ leaving a es else leaving a es) v cs → (ListedFit commands (leaving a es) v cs → TriesFit commands es a v cs) →
        (e.source ≡ a → EdgeFits commands e v cs) × ((if t then stepped e (after_edge commands e v cs) else None) ≡ None → TriesFit commands es a v cs)
    at true t g rest = (λ s. g.0, λ n. rest (g.1 (map_none (λ (w : Values). (w, e.target)) (after_edge commands e v cs) n)))
    at false t g rest = (λ s. absurd (false_true (sym t ∙ eq-eqb e.source a s)), λ n. rest g)

-- ---- listed edges, one after another
pub record IsTrying (commands : List Command) (v : Values) (cs : List ℤ) (all rest : List Edge) (w : Values) : Type 0 where
  pub same : along_listed commands rest v cs ≡ along_listed commands all v cs
  pub values : w ≡ v
  pub fits : ListedFit commands rest v cs → ListedFit commands all v cs
  pub fit : ListedFit commands all v cs → ListedFit commands rest v cs

pub trying_start : (commands : List Command) (v : Values) (cs : List ℤ) (all : List Edge) → IsTrying commands v cs all all v
trying_start commands v cs all = record { same = refl; values = refl; fits = λ h. h; fit = λ h. h }

all_by_get : (m : ℕ) (ns : List ℕ) (i : ℕ) → AllByRecursion (λ (n : ℕ). n < m) ns → i < length ns → get_or ns i 0 < m
all_by_get m [] i h w = let no : ⊥ = omega (arith, w) in absurd no
all_by_get m (n ∷ ns) zero h w = h.0
all_by_get m (n ∷ ns) (suc i) h w = all_by_get m ns i h.1 (omega (arith, w))

here : (edges : List Edge) (ns : List ℕ) (i : ℕ) (e : Edge) → i < length ns → AllByRecursion (λ (n : ℕ). n < length edges) ns → e ≡ get_or edges (get_or ns i 0) e →
    edges_by edges (drop i ns) ≡ e ∷ edges_by edges (drop (i + 1) ns)
here edges ns i e w h is =
    ap (edges_by edges) (drop_more ns i 0 w)
    ∙ ap (λ (x : Edge). x ∷ edges_by edges (drop (i + 1) ns)) (get_default edges (get_or ns i 0) no_edge e (all_by_get (length edges) ns i h w) ∙ sym is)

pub trying_on : (commands : List Command) (v : Values) (cs : List ℤ) (edges : List Edge) (ns : List ℕ) (i : ℕ) (e : Edge) (w new : Values) (all : List Edge) → i < length ns →
    AllByRecursion (λ (n : ℕ). n < length edges) ns → e ≡ get_or edges (get_or ns i 0) e → IsTrying commands v cs all (edges_by edges (drop i ns)) w →
    EdgeFits commands e w cs → after_edge commands e w cs ≡ None → new ≡ w → IsTrying commands v cs all (edges_by edges (drop (i + 1) ns)) new
trying_on commands v cs edges ns i e w new all within h is t fits none stays =
    let r : IsTrying commands v cs all (e ∷ edges_by edges (drop (i + 1) ns)) w = subst (λ (es : List Edge). IsTrying commands v cs all es w) (here edges ns i e within h is) t in
    let fits_v : EdgeFits commands e v cs = subst (λ (x : Values). EdgeFits commands e x cs) t.values fits in
    let none_v : after_edge commands e v cs ≡ None = ap (λ (x : Values). after_edge commands e x cs) (sym t.values) ∙ none in
    record {
      same = sym (ap (λ (o : Option Values). or_else (stepped e o) (along_listed commands (edges_by edges (drop (i + 1) ns)) v cs)) none_v) ∙ r.same;
      values = stays ∙ t.values;
      fits = λ g. r.fits (fits_v, λ n. g);
      fit = λ g. (r.fit g).1 none_v;
    }

pub trying_found : (commands : List Command) (v : Values) (cs : List ℤ) (edges : List Edge) (ns : List ℕ) (i : ℕ) (e : Edge) (w new : Values) (all : List Edge) → i < length ns →
    AllByRecursion (λ (n : ℕ). n < length edges) ns → e ≡ get_or edges (get_or ns i 0) e → IsTrying commands v cs all (edges_by edges (drop i ns)) w →
    EdgeFits commands e w cs → after_edge commands e w cs ≡ Some new → (along_listed commands all v cs ≡ Some (new, e.target)) × ListedFit commands all v cs
trying_found commands v cs edges ns i e w new all within h is t fits some =
    let r : IsTrying commands v cs all (e ∷ edges_by edges (drop (i + 1) ns)) w = subst (λ (es : List Edge). IsTrying commands v cs all es w) (here edges ns i e within h is) t in
    let fits_v : EdgeFits commands e v cs = subst (λ (x : Values). EdgeFits commands e x cs) t.values fits in
    let some_v : after_edge commands e v cs ≡ Some new = ap (λ (x : Values). after_edge commands e x cs) (sym t.values) ∙ some in (
      sym r.same ∙ ap (λ (o : Option Values). or_else (stepped e o) (along_listed commands (edges_by edges (drop (i + 1) ns)) v cs)) some_v,
      r.fits (fits_v, λ n. absurd (some_none new (sym n ∙ some_v))),
    )

pub trying_past : (commands : List Command) (v : Values) (cs : List ℤ) (edges : List Edge) (ns : List ℕ) (i : ℕ) (e : Edge) (w : Values) (all : List Edge) → i < length ns →
    AllByRecursion (λ (n : ℕ). n < length edges) ns → e ≡ get_or edges (get_or ns i 0) e → IsTrying commands v cs all (edges_by edges (drop i ns)) w →
    ¬ EdgeFits commands e w cs → ¬ ListedFit commands all v cs
trying_past commands v cs edges ns i e w all within h is t past g =
    let r : IsTrying commands v cs all (e ∷ edges_by edges (drop (i + 1) ns)) w = subst (λ (es : List Edge). IsTrying commands v cs all es w) (here edges ns i e within h is) t in
    past (subst (λ (x : Values). EdgeFits commands e x cs) (sym t.values) (r.fit g).0)

pub trying_end : (commands : List Command) (v : Values) (cs : List ℤ) (all rest : List Edge) (w : Values) → rest ≡ [] → IsTrying commands v cs all rest w →
    (along_listed commands all v cs ≡ None) × ListedFit commands all v cs × (w ≡ v)
trying_end commands v cs all rest w e t =
    let r : IsTrying commands v cs all [] w = subst (λ (es : List Edge). IsTrying commands v cs all es w) e t in
    (sym r.same, r.fits tt, r.values)

-- ---- one edge
pub edge_command : (graph : Graph) (e : Edge) → Contains graph.edges e → e.command < length graph.setting.commands
edge_command graph e (k, within, is) = subst (λ (x : Edge). x.command < length graph.setting.commands) is (has_command graph k e within)

ops_got : (graph : Graph) (commands : List Command) (c : Command) (n : ℕ) → commands ≡ graph.setting.commands → n < length graph.setting.commands → c ≡ get_or commands n c → ops_of graph.setting.commands n ≡ c.ops
ops_got graph commands c n same w is =
    let got : c ≡ get_or graph.setting.commands n c = is ∙ ap (λ (cs : List Command). get_or cs n c) same in
    let some : slice_get graph.setting.commands n ≡ Some c = slice_get-get_or graph.setting.commands n c w ∙ ap Some (sym got) in
    ap (λ (o : Option Command). unwrap_or (option_map (λ (d : Command). d.ops) o) []) some

-- what is known where the command of an edge is run
pub record Runs (graph : Graph) (e : Edge) (v : Values) (cs hs : List ℤ) (c : Command) : Type 0 where
  pub ops : ops_of graph.setting.commands e.command ≡ c.ops
  pub named : list_all (is_declared_op (length v.globals) (length v.locals)) c.ops ≡ true
  pub count : length hs ≡ havocs_in c.ops
  pub after : after_edge graph.setting.commands e v cs ≡ run c.ops v hs

pub runs_here : (graph : Graph) (e : Edge) (v : Values) (cs hs : List ℤ) (commands : List Command) (c : Command) → Contains graph.edges e → AreSized graph.setting v → havocs_of e.picks cs ≡ Some hs →
    commands ≡ graph.setting.commands → c ≡ get_or commands e.command c → Runs graph e v cs hs c
runs_here graph e v cs hs commands c i sized fit same is =
    let ops : ops_of graph.setting.commands e.command ≡ c.ops = ops_got graph commands c e.command same (edge_command graph e i) is in
    let got : c ≡ get_or graph.setting.commands e.command c = is ∙ ap (λ (cs : List Command). get_or cs e.command c) same in
    let declared : is_declared_command graph.setting.globals graph.setting.locals (get_or graph.setting.commands e.command c) ≡ true =
    all_at (is_declared_command graph.setting.globals graph.setting.locals) graph.setting.commands e.command c graph.setting.commands_declared (edge_command graph e i) in
    record {
      ops = ops;
      named = ap₂ (λ (g l : ℕ). list_all (is_declared_op g l) c.ops) sized.globals sized.locals
          ∙ ap (is_declared_command graph.setting.globals graph.setting.locals) got ∙ declared;
      count = havocs_count e.picks cs hs fit ∙ picks_count graph.setting.commands graph.edges graph.picks e (in_of_contains e graph.edges i) ∙ ap havocs_in ops;
      after = ap (option_and_then (run (ops_of graph.setting.commands e.command) v)) fit ∙ ap (λ (os : List Op). run os v hs) ops;
    }

pub edge_fits : (graph : Graph) (e : Edge) (v : Values) (cs hs : List ℤ) (c : Command) → Runs graph e v cs hs c → havocs_of e.picks cs ≡ Some hs → RunFits c.ops v hs → EdgeFits graph.setting.commands e v cs
edge_fits graph e v cs hs c r fit f gs g =
    let same : hs ≡ gs = same_Some hs gs (sym fit ∙ g) in
    subst (λ (x : List ℤ). RunFits (ops_of graph.setting.commands e.command) v x) same (subst (λ (os : List Op). RunFits os v hs) (sym r.ops) f)

pub edge_past : (graph : Graph) (e : Edge) (v : Values) (cs hs : List ℤ) (c : Command) → Runs graph e v cs hs c → havocs_of e.picks cs ≡ Some hs → ¬ RunFits c.ops v hs → ¬ EdgeFits graph.setting.commands e v cs
edge_past graph e v cs hs c r fit past f = past (subst (λ (os : List Op). RunFits os v hs) r.ops (f hs fit))

pub no_fit : (commands : List Command) (e : Edge) (v : Values) (cs : List ℤ) → havocs_of e.picks cs ≡ None → (after_edge commands e v cs ≡ None) × EdgeFits commands e v cs
no_fit commands e v cs none = (ap (option_and_then (run (ops_of commands e.command) v)) none, λ hs h. absurd (some_none hs (sym none ∙ h)))

pub sized_after : (setting : Setting) (ops : List Op) (v w : Values) (hs : List ℤ) (on : Bool) → AreSized setting v → run ops v hs ≡ (if on then Some w else None) → (IsFalse on → w ≡ v) → AreSized setting w
sized_after setting ops v w hs true sized r same =
    let s : SameSizes v w = run_sizes ops v hs w r in
    record { globals = s.globals ∙ sized.globals; locals = s.locals ∙ sized.locals }
sized_after setting ops v w hs false sized r same = subst (λ (x : Values). AreSized setting x) (sym (same refl)) sized

-- ---- of one thread, by the numbers of the edges that leave its location
joined : (graph : Graph) (a : ℕ) (ns exits : List ℕ) → AreLeaving graph.edges a exits → ns ≡ exits → leaving a graph.edges ≡ edges_by graph.edges ns
joined graph a ns exits h e = sym (ap (edges_by graph.edges) e ∙ h.same)

pub along_seat : (graph : Graph) (a : ℕ) (v w : Values) (cs : List ℤ) (ns exits : List ℕ) (o : Option (Values × ℕ)) → AreLeaving graph.edges a exits → ns ≡ exits → w ≡ v →
    along_listed graph.setting.commands (edges_by graph.edges ns) w cs ≡ o → along_first graph.setting.commands graph.edges a v cs ≡ o
along_seat graph a v w cs ns exits o h e same r =
    listed_is graph.setting.commands graph.edges a v cs
    ∙ ap₂ (λ (es : List Edge) (x : Values). along_listed graph.setting.commands es x cs) (joined graph a ns exits h e) (sym same) ∙ r

pub fits_seat : (graph : Graph) (a : ℕ) (v w : Values) (cs : List ℤ) (ns exits : List ℕ) → AreLeaving graph.edges a exits → ns ≡ exits → w ≡ v →
    ListedFit graph.setting.commands (edges_by graph.edges ns) w cs → TriesFit graph.setting.commands graph.edges a v cs
fits_seat graph a v w cs ns exits h e same f =
    tries_fit graph.setting.commands graph.edges a v cs
    (subst (λ (es : List Edge). ListedFit graph.setting.commands es v cs) (sym (joined graph a ns exits h e)) (subst (λ (x : Values). ListedFit graph.setting.commands (edges_by graph.edges ns) x cs) same f))

pub fit_seat : (graph : Graph) (a : ℕ) (v w : Values) (cs : List ℤ) (ns exits : List ℕ) → AreLeaving graph.edges a exits → ns ≡ exits → w ≡ v →
    TriesFit graph.setting.commands graph.edges a v cs → ListedFit graph.setting.commands (edges_by graph.edges ns) w cs
fit_seat graph a v w cs ns exits h e same f =
    subst (λ (x : Values). ListedFit graph.setting.commands (edges_by graph.edges ns) x cs) (sym same)
    (subst (λ (es : List Edge). ListedFit graph.setting.commands es v cs) (joined graph a ns exits h e) (listed_fit graph.setting.commands graph.edges a v cs f))
