-- The list of demands says what the definition demands.
use Rattle.std.proofs.Common.{◌≡◌, ℕ, List, map, sym, subst, Contains, Some}
use Rattle.std.specs.List.{filter_map}
use Rattle.ps_atom.specs.Atoms.{renamed}
use Rattle.ps_atom.specs.declared.atom.Atom.{Atom}
use Rattle.ps_config.specs.Configurations.{Configuration}
use Rattle.ps_list.proofs.Mapped.{flat_mapped, from_flat_mapped}
use Rattle.ps_triple.specs.declared.entry.Entry.{Entry}
use Rattle.ps_triple.specs.declared.entry.Entry.TheVariants.{Triple as OfTriple, Initial as OfInitial}
use Rattle.ps_step.specs.Steps.{MeetsDemands}
use Rattle.ps_demand.specs.Demands.{AreTied}
use Rattle.ps_demand.specs.Demands.{demand, demands}
use Rattle.ps_demand.specs.Hitting.{MeetsSet, HitsAll}
use Rattle.ps_demand.proofs.Demanding.{demanded_given, renamed_demanded}
use Rattle.ps_demand.proofs.Picked.{picked, from_picked}

-- ---- all of them

met_at : (entries : List Entry) (from to : Configuration) (thread command : ℕ) (set : List Atom) → AreTied entries → MeetsDemands entries from thread command to
    → (q : Atom) → Contains from.atoms q → (entry : Entry) → Contains entries entry → demand thread command q entry ≡ Some set → MeetsSet to.atoms set
met_at entries from to thread command set tied m q has (OfInitial i) c e = absurd (let f : ⊥ = cc in f)
met_at entries from to thread command set tied m q has (OfTriple t) c e =
    let w = m q set has (demanded_given entries thread command q t set (tied (OfTriple t) c) c e) in
    (w.0, w.2, w.1)

pub meets_hits : (entries : List Entry) (from to : Configuration) (thread command : ℕ) → AreTied entries → MeetsDemands entries from thread command to → HitsAll (demands entries from.atoms thread command) to.atoms
meets_hits entries from to thread command tied m set h =
    let w = from_flat_mapped (λ (q : Atom). filter_map (demand thread command q) entries) from.atoms set h in
    let v = from_picked (demand thread command w.0) entries set w.2 in
    met_at entries from to thread command set tied m w.0 w.1 v.0 v.1 v.2

pub hits_meets : (entries : List Entry) (from to : Configuration) (thread command : ℕ) → AreTied entries → HitsAll (demands entries from.atoms thread command) to.atoms → MeetsDemands entries from thread command to
hits_meets entries from to thread command tied hits q a has g =
    let set : List Atom = map (renamed g.by.new) g.triple.pre in
    let is : demand thread command q (OfTriple g.triple) ≡ Some set = renamed_demanded thread command q g.triple g.by.new (tied (OfTriple g.triple) g.listed) g.by.apart g.by.runs g.same g.by.post in
    let in_demands : Contains (demands entries from.atoms thread command) set =
    flat_mapped (λ (q : Atom). filter_map (demand thread command q) entries) from.atoms q set has (picked (demand thread command q) entries (OfTriple g.triple) set g.listed is) in
    let met : MeetsSet to.atoms set = hits set in_demands in
    (met.0, subst (λ (xs : List Atom). Contains xs met.0) (sym g.by.pre) met.2, met.1)
