-- The demands are what the renamed triples have before.
use Rattle.std.proofs.Common.{◌≡◌, ◌↔◌, ℕ, List, map, Some, sym, subst, Contains}
use Rattle.std.specs.List.{filter_map}
use Rattle.ps_atom.specs.Atoms.{renamed}
use Rattle.ps_atom.specs.declared.atom.Atom.{Atom}
use Rattle.ps_list.proofs.Mapped.{flat_mapped, from_flat_mapped}
use Rattle.ps_demand.proofs.Demanding.{demanded_given, renamed_demanded}
use Rattle.ps_demand.proofs.Picked.{from_picked, picked}
use Rattle.ps_demand.specs.Demands.{AreTied, demand, demands}
use Rattle.ps_triple.specs.Entries.{GivesAtom}
use Rattle.ps_triple.specs.declared.entry.Entry.{Entry}
use Rattle.ps_triple.specs.declared.entry.Entry.TheVariants.{Triple as OfTriple, Initial as OfInitial}

-- a renamed triple with these atoms before, and after it one of the atoms
pub record Demand (entries : List Entry) (thread command : ℕ) (atoms before : List Atom) : Type 0 where
  pub after : Atom
  pub within : Contains atoms after
  pub gives : GivesAtom entries thread command before after

of_entry : (entries : List Entry) (tied : AreTied entries) (thread command : ℕ) (q : Atom) (set : List Atom) (entry : Entry) → Contains entries entry →
    demand thread command q entry ≡ Some set → GivesAtom entries thread command set q
of_entry entries tied thread command q set (OfTriple t) c e = demanded_given entries thread command q t set (tied (OfTriple t) c) c e
of_entry entries tied thread command q set (OfInitial i) c e = absurd (let none_such : ⊥ = cc in none_such)

-- each of the lists of demands is one
pub demand_of : (entries : List Entry) → AreTied entries → (atoms : List Atom) (thread command : ℕ) (set : List Atom) →
    Contains (demands entries atoms thread command) set → Demand entries thread command atoms set
demand_of entries tied atoms thread command set h =
    let w = from_flat_mapped (λ (q : Atom). filter_map (demand thread command q) entries) atoms set h in
    let v = from_picked (demand thread command w.0) entries set w.2 in
    record { after = w.0; within = w.1; gives = of_entry entries tied thread command w.0 set v.0 v.1 v.2 }

-- and what a renamed triple has before is one of them
pub demanded : (entries : List Entry) → AreTied entries → (atoms : List Atom) (thread command : ℕ) (before : List Atom) (q : Atom) →
    Contains atoms q → GivesAtom entries thread command before q → Contains (demands entries atoms thread command) before
demanded entries tied atoms thread command before q has g =
    let is : demand thread command q (OfTriple g.triple) ≡ Some (map (renamed g.by.new) g.triple.pre) =
    renamed_demanded thread command q g.triple g.by.new (tied (OfTriple g.triple) g.listed) g.by.apart g.by.runs g.same g.by.post in
    subst (Contains (demands entries atoms thread command)) (sym g.by.pre)
    (flat_mapped (λ (p : Atom). filter_map (demand thread command p) entries) atoms q (map (renamed g.by.new) g.triple.pre) has
    (picked (demand thread command q) entries (OfTriple g.triple) (map (renamed g.by.new) g.triple.pre) g.listed is))

pub what_gives : (entries : List Entry) (atoms : List Atom) (thread command : ℕ) (before : List Atom) → AreTied entries →
    Contains (demands entries atoms thread command) before ↔ ((q : Atom) × Contains atoms q × GivesAtom entries thread command before q)
what_gives entries atoms thread command before tied = (
  (λ h. let d = demand_of entries tied atoms thread command before h in (d.after, d.within, d.gives)),
  (λ w. demanded entries tied atoms thread command before w.0 w.1 w.2),
)
