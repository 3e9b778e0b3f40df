use Rattle.std.proofs.Common.{◌<◌, ◌≤◌, inl, inr, length, arith}
use Rattle.ps_atom_text.proofs.InForm.{atom_fits_by, atom_is_formed, atom_refused_by, atom_too_many_by}
use Rattle.ps_atom_text.proofs.draft.Draft.with_atom.Goals as goal
use Rattle.ps_config.specs.Configurations.{Configuration}
use Rattle.ps_config.specs.declared.config.TheConstants.{MOST_ATOMS, MOST_THREADS}

pub returns-then-not-comes_last : goal.returns-then-not-comes_last
returns-then-not-comes_last c =
    let all : Configuration = record { at = c.self.inside.at.items; atoms = c.self.inside.atoms.items } in
    rw (← c.self.view_is) (atom_refused_by c.self.inside.met.items all c.args.atom c.deref.result.now c.self.invariant c.deref.ensures.value c.if-not-comes_last.ensures)

pub returns-then-len-gt-MOST_THREADS : goal.returns-then-len-gt-MOST_THREADS
returns-then-len-gt-MOST_THREADS c =
    let all : Configuration = record { at = c.self.inside.at.items; atoms = c.self.inside.atoms.items } in
    let many : MOST_THREADS < length c.meet_all.new.met.items = omega (arith, c.if-len-gt-MOST_THREADS.true, c.len.ensures, c.meet_all.new.met.ok.0) in
    rw (← c.self.view_is) (atom_too_many_by c.self.inside.met.items c.meet_all.new.met.items c.as_slice.result.now all c.args.atom c.deref.result.now c.self.invariant c.deref.ensures.value c.if-not-comes_last.ensures c.in_ok-meet_all.ensures c.as_slice.ensures (inl many))

pub returns-then-len-ge-MOST_ATOMS : goal.returns-then-len-ge-MOST_ATOMS
returns-then-len-ge-MOST_ATOMS c =
    let all : Configuration = record { at = c.self.inside.at.items; atoms = c.self.inside.atoms.items } in
    let full : MOST_ATOMS ≤ length c.self.inside.atoms.items = omega (arith, c.if-len-ge-MOST_ATOMS.true, c.len-2.ensures, c.self.inside.atoms.ok.0) in
    rw (← c.self.view_is) (atom_too_many_by c.self.inside.met.items c.meet_all.new.met.items c.as_slice.result.now all c.args.atom c.deref.result.now c.self.invariant c.deref.ensures.value c.if-not-comes_last.ensures c.in_ok-meet_all.ensures c.as_slice.ensures (inr full))

pub invariant_of-result : goal.invariant_of-result
invariant_of-result c =
    let all : Configuration = record { at = c.self.inside.at.items; atoms = c.self.inside.atoms.items } in
    let few : length c.meet_all.new.met.items ≤ MOST_THREADS = omega (arith, c.if-len-gt-MOST_THREADS.false, c.len.ensures, c.meet_all.new.met.ok.0) in
    let room : length c.self.inside.atoms.items < MOST_ATOMS = omega (arith, c.if-len-ge-MOST_ATOMS.false, c.len-2.ensures, c.self.inside.atoms.ok.0) in
    atom_fits_by c.self.inside.met.items c.meet_all.new.met.items c.as_slice.result.now all c.args.atom c.deref.result.now c.push.new.self.items c.self.invariant c.deref.ensures.value c.if-not-comes_last.ensures c.in_ok-meet_all.ensures c.as_slice.ensures few room c.in_ok-push.ensures.items

pub returns : goal.returns
returns c =
    let all : Configuration = record { at = c.self.inside.at.items; atoms = c.self.inside.atoms.items } in
    let few : length c.meet_all.new.met.items ≤ MOST_THREADS = omega (arith, c.if-len-gt-MOST_THREADS.false, c.len.ensures, c.meet_all.new.met.ok.0) in
    let room : length c.self.inside.atoms.items < MOST_ATOMS = omega (arith, c.if-len-ge-MOST_ATOMS.false, c.len-2.ensures, c.self.inside.atoms.ok.0) in
    let is = atom_fits_by c.self.inside.met.items c.meet_all.new.met.items c.as_slice.result.now all c.args.atom c.deref.result.now c.push.new.self.items c.self.invariant c.deref.ensures.value c.if-not-comes_last.ensures c.in_ok-meet_all.ensures c.as_slice.ensures few room c.in_ok-push.ensures.items in
    rw (← c.self.view_is) (atom_is_formed c.meet_all.new.met.items all c.args.atom c.push.new.self.items is c.in_ok-push.ensures.items)
