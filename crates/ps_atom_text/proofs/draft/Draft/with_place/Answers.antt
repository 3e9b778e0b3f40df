use Rattle.std.proofs.Common.{◌<◌, ◌≤◌, length, arith}
use Rattle.ps_atom_text.proofs.InForm.{place_fits_by, place_is_formed, place_refused_by, place_too_many_by}
use Rattle.ps_atom_text.proofs.draft.Draft.with_place.Goals as goal
use Rattle.ps_config.specs.Configurations.{Configuration}
use Rattle.ps_config.specs.declared.config.TheConstants.{MOST_THREADS}

pub returns-then-not-thread_comes_last : goal.returns-then-not-thread_comes_last
returns-then-not-thread_comes_last c =
    let all : Configuration = record { at = c.self.inside.at.items; atoms = c.self.inside.atoms.items } in
    rw (← c.self.view_is) (place_refused_by c.self.inside.met.items all c.args.place c.deref.result.now c.self.invariant c.deref.ensures.value c.if-not-thread_comes_last.ensures)

pub returns-then-len-gt-MOST_THREADS : goal.returns-then-len-gt-MOST_THREADS
returns-then-len-gt-MOST_THREADS c =
    let all : Configuration = record { at = c.self.inside.at.items; atoms = c.self.inside.atoms.items } in
    let many : MOST_THREADS < length c.meet.new.met.items = omega (arith, c.if-len-gt-MOST_THREADS.true, c.len.ensures, c.meet.new.met.ok.0) in
    rw (← c.self.view_is) (place_too_many_by c.self.inside.met.items c.meet.new.met.items all c.args.place c.deref.result.now c.self.invariant c.deref.ensures.value c.if-not-thread_comes_last.ensures c.in_ok-meet.ensures many)

pub invariant_of-result : goal.invariant_of-result
invariant_of-result c =
    let all : Configuration = record { at = c.self.inside.at.items; atoms = c.self.inside.atoms.items } in
    let few : length c.meet.new.met.items ≤ MOST_THREADS = omega (arith, c.if-len-gt-MOST_THREADS.false, c.len.ensures, c.meet.new.met.ok.0) in
    place_fits_by c.self.inside.met.items c.meet.new.met.items all c.args.place c.deref.result.now c.push.new.self.items c.self.invariant c.deref.ensures.value c.if-not-thread_comes_last.ensures c.in_ok-meet.ensures few c.in_ok-push.ensures.items

pub returns : goal.returns
returns c =
    let all : Configuration = record { at = c.self.inside.at.items; atoms = c.self.inside.atoms.items } in
    let few : length c.meet.new.met.items ≤ MOST_THREADS = omega (arith, c.if-len-gt-MOST_THREADS.false, c.len.ensures, c.meet.new.met.ok.0) in
    let is = place_fits_by c.self.inside.met.items c.meet.new.met.items all c.args.place c.deref.result.now c.push.new.self.items c.self.invariant c.deref.ensures.value c.if-not-thread_comes_last.ensures c.in_ok-meet.ensures few c.in_ok-push.ensures.items in
    rw (← c.self.view_is) (place_is_formed c.meet.new.met.items all c.args.place c.push.new.self.items is c.in_ok-push.ensures.items)
