-- A program has one graph, but for the numbers of its commands: a replay on each stays within 128 bits or on none.
use Rattle.std.proofs.Common.{◌≡◌, ℕ, zero, suc, ℤ, List, [], ◌∷◌, refl, sym, ◌∙◌, subst}
use Rattle.std.specs.Prelude.{Option, Some, None, slice_get, slice_index_or, IfSome}
use Rattle.ps_command.specs.Commands.{ops_of}
use Rattle.ps_command.specs.Fitting.{IsSized}
use Rattle.ps_command.specs.Initial.{IsInitial}
use Rattle.ps_command.specs.RunFits.{RunFits, StartFits}
use Rattle.ps_command.specs.Values.{Values}
use Rattle.ps_command.specs.declared.command.Command.{Command}
use Rattle.ps_command.specs.declared.op.Op.{Op}
use Rattle.ps_command.specs.declared.state.State.{State}
use Rattle.ps_compile.specs.Compiled.{IsCompiled, IsEdge, AreEdges}
use Rattle.ps_compile.specs.Layout.{Planned, all_planned, body_sites}
use Rattle.ps_graph.specs.Follows.{along}
use Rattle.ps_graph.specs.Threads.{Seat, World, Stepping, step_at}
use Rattle.ps_graph.specs.declared.edge.Edge.{Edge}
use Rattle.ps_graph.specs.declared.graph.Graph.{Graph}
use Rattle.ps_trace.specs.Reaches.{steps_of, witness_state}
use Rattle.ps_trace.specs.Replay.{along_first, moved_on, world_of, entered, EdgeFits, TriesFit, MoveFits, StepsFit, ReplayFits}
use Rattle.ps_trace.specs.declared.witness.Witness.{Witness}
use Rattle.ps_tree.specs.declared.program.Program.{Program}

-- ---- edges that do the same, of commands that are numbered in their own way

record IsLike (cs ds : List Command) (e f : Edge) : Type 0 where
  pub source : e.source ≡ f.source
  pub target : e.target ≡ f.target
  pub ops : ops_of cs e.command ≡ ops_of ds f.command
  pub picks : e.picks ≡ f.picks

abbrev AreLike : List Command → List Command → List Edge → List Edge → Type 0
AreLike cs ds [] [] = Unit {0}
AreLike cs ds (e ∷ es) (f ∷ fs) = IsLike cs ds e f × AreLike cs ds es fs
AreLike cs ds _ _ = ⊥

like_edge : (cs ds : List Command) (p : Planned) (e f : Edge) → IsEdge cs p e → IsEdge ds p f → IsLike cs ds e f
like_edge cs ds p e f a b = record {
  source = a.source ∙ sym b.source;
  target = a.target ∙ sym b.target;
  ops = a.ops ∙ sym b.ops;
  picks = a.picks ∙ sym b.picks;
}

like_edges : (cs ds : List Command) (ps : List Planned) (es fs : List Edge) → AreEdges cs ps es → AreEdges ds ps fs → AreLike cs ds es fs
like_edges cs ds [] [] [] a b = tt
like_edges cs ds [] [] (f ∷ fs) a b = absurd b
like_edges cs ds [] (e ∷ es) fs a b = absurd a
like_edges cs ds (p ∷ ps) [] fs a b = absurd a
like_edges cs ds (p ∷ ps) (e ∷ es) [] a b = absurd b
like_edges cs ds (p ∷ ps) (e ∷ es) (f ∷ fs) a b = (like_edge cs ds p e f a.0 b.0, like_edges cs ds ps es fs a.1 b.1)

-- ---- steps along them

along_like : (cs ds : List Command) (e f : Edge) → IsLike cs ds e f → (a : ℕ) (v : Values) (hs : List ℤ) → along cs e a v hs ≡ along ds f a v hs
along_like cs ds e f h a v hs = rw (h.source, h.target, h.ops, h.picks) refl

first_like : (cs ds : List Command) (es fs : List Edge) → AreLike cs ds es fs → (a : ℕ) (v : Values) (hs : List ℤ) → along_first cs es a v hs ≡ along_first ds fs a v hs
first_like cs ds [] [] h a v hs = refl
first_like cs ds [] (f ∷ fs) h a v hs = absurd h
first_like cs ds (e ∷ es) [] h a v hs = absurd h
first_like cs ds (e ∷ es) (f ∷ fs) h a v hs = rw (along_like cs ds e f h.0 a v hs, first_like cs ds es fs h.1 a v hs) refl

step_like : (one two : Stepping ℕ) → ((a : ℕ) (v : Values) (hs : List ℤ) → one a v hs ≡ two a v hs) →
    (k : ℕ) (globals : List ℤ) (seats : List (Seat ℕ)) (hs : List ℤ) → step_at one k globals seats hs ≡ step_at two k globals seats hs
step_like one two h k globals [] hs = refl
step_like one two h zero globals (t ∷ ts) hs = rw (h t.at (record { globals = globals; locals = t.locals }) hs) refl
step_like one two h (suc k) globals (t ∷ ts) hs = rw (step_like one two h k globals ts hs) refl

-- ---- what stays within 128 bits

edge_fits : (cs ds : List Command) (e f : Edge) → IsLike cs ds e f → (v : Values) (hs : List ℤ) → EdgeFits cs e v hs → EdgeFits ds f v hs
edge_fits cs ds e f h v hs fits = λ havocs is. subst (λ (ops : List Op). RunFits ops v havocs) h.ops (fits havocs (rw h.picks is))

tries_fit : (cs ds : List Command) (es fs : List Edge) → AreLike cs ds es fs → (a : ℕ) (v : Values) (hs : List ℤ) → TriesFit cs es a v hs → TriesFit ds fs a v hs
tries_fit cs ds [] [] h a v hs fits = tt
tries_fit cs ds [] (f ∷ fs) h a v hs fits = absurd h
tries_fit cs ds (e ∷ es) [] h a v hs fits = absurd h
tries_fit cs ds (e ∷ es) (f ∷ fs) h a v hs fits = (
  λ here. edge_fits cs ds e f h.0 v hs (fits.0 (h.0.source ∙ here)),
  λ none. tries_fit cs ds es fs h.1 a v hs (fits.1 (along_like cs ds e f h.0 a v hs ∙ none)),
)

-- ---- graphs of one program

record AreAlike (g h : Graph) : Type 0 where
  pub edges : AreLike g.setting.commands h.setting.commands g.edges h.edges
  pub entries : g.entries ≡ h.entries
  pub globals : g.setting.globals ≡ h.setting.globals
  pub locals : g.setting.locals ≡ h.setting.locals
  pub once : g.setting.init_once ≡ h.setting.init_once
  pub each : g.setting.init_each ≡ h.setting.init_each

graphs_alike : (p : Program) (g h : Graph) → IsCompiled p g → IsCompiled p h → AreAlike g h
graphs_alike p g h a b = record {
  edges = like_edges g.setting.commands h.setting.commands (all_planned (body_sites p.body 0 2)) g.edges h.edges a.body.planned b.body.planned;
  entries = a.entries ∙ sym b.entries;
  globals = a.globals ∙ sym b.globals;
  locals = a.locals ∙ sym b.locals;
  once = a.init_once ∙ sym b.init_once;
  each = a.init_each ∙ sym b.init_each;
}

moves_alike : (g h : Graph) → AreAlike g h → (m : ℕ × List ℤ) (w : World ℕ) → moved_on g m w ≡ moved_on h m w
moves_alike g h like m w =
    step_like (along_first g.setting.commands g.edges) (along_first h.setting.commands h.edges)
    (first_like g.setting.commands h.setting.commands g.edges h.edges like.edges) m.0 w.globals w.seats m.1

if_some : {X : Type 0} (P Q : X → Type 0) (o : Option X) → ((x : X) → P x → Q x) → IfSome o P → IfSome o Q
if_some P Q None f p = tt
if_some P Q (Some x) f p = f x p

move_fits : (g h : Graph) → AreAlike g h → (m : ℕ × List ℤ) (w : World ℕ) → MoveFits g m w → MoveFits h m w
move_fits g h like m w fits =
    if_some (λ (u : Seat ℕ). TriesFit g.setting.commands g.edges u.at (record { globals = w.globals; locals = u.locals }) m.1)
    (λ (u : Seat ℕ). TriesFit h.setting.commands h.edges u.at (record { globals = w.globals; locals = u.locals }) m.1)
    (slice_get w.seats m.0)
    (λ u. tries_fit g.setting.commands h.setting.commands g.edges h.edges like.edges u.at (record { globals = w.globals; locals = u.locals }) m.1)
    fits

steps_fit : (g h : Graph) → AreAlike g h → (ms : List (ℕ × List ℤ)) (w : World ℕ) → StepsFit g ms w → StepsFit h ms w
steps_fit g h like [] w fits = tt
steps_fit g h like (m ∷ ms) w fits = λ on.
    let f = fits on in (
      move_fits g h like m w f.0,
      subst (λ (o : Option (World ℕ)). IfSome o (StepsFit h ms)) (moves_alike g h like m w)
          (if_some (StepsFit g ms) (StepsFit h ms) (moved_on g m w) (steps_fit g h like ms) f.1),
    )

sized : (g h : Graph) → AreAlike g h → (s : State) → IsSized h.setting s → IsSized g.setting s
sized g h like s is = record { globals = rw like.globals is.globals; locals = rw like.locals is.locals }

start_fits : (g h : Graph) → AreAlike g h → (s : State) → StartFits g.setting s → StartFits h.setting s
start_fits g h like s fits = λ some is.
    let f = fits some (sized g h like s is) in rw (← like.once, ← like.each) f

initial : (g h : Graph) → AreAlike g h → (s : State) → IsInitial h.setting s → IsInitial g.setting s
initial g h like s is = record {
  threads = is.threads;
  globals = rw like.globals is.globals;
  locals = rw like.locals is.locals;
  once = rw like.once is.once;
  each = λ k below. rw like.each (is.each k below);
}

replay_fits : (g h : Graph) → AreAlike g h → (w : Witness) → ReplayFits g w → ReplayFits h w
replay_fits g h like w fits = record {
  start = start_fits g h like (witness_state w) fits.start;
  steps = λ is.
      let f : StepsFit h (steps_of w) (world_of g w) = steps_fit g h like (steps_of w) (world_of g w) (fits.steps (initial g h like (witness_state w) is)) in
      subst (λ (es : List ℕ). StepsFit h (steps_of w) (entered (slice_index_or es 0 0) (witness_state w))) like.entries f;
}

-- a replay that stays within 128 bits on one graph of a program does so on each
pub fits_on_each : (p : Program) (g h : Graph) → IsCompiled p g → IsCompiled p h → (w : Witness) → ReplayFits g w → ReplayFits h w
fits_on_each p g h a b = replay_fits g h (graphs_alike p g h a b)
