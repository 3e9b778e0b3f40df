-- A call gives the first bytes of what is left, and none only where none is left.
use Rattle.std.proofs.Common.{◌+◌, ◌-◌, ◌≤◌, length, drop, arith, length-append, length-drop}
use Rattle.std.proofs.lemmas.List.{drop_all}
use Rattle.ps_io.proofs.Pieces.{given_first, length-rest}
use Rattle.ps_io.proofs.memory_source.MemorySourceSource.take.Goals as goal

pub returns-clause-bytes : goal.returns-clause-bytes
returns-clause-bytes c =
    let bytes = c.self.inside.bytes.items in
    let n = c.min-count.result in
    let rest = length-rest c.deref.result.now c.self.inside.given in
    let fits : n ≤ length bytes - c.self.inside.given = rw (← c.deref.ensures.value) (omega (arith, rest)) in (
      rw (← c.self.view_is) (given_first bytes c.copy_from_slice.new.self (drop n c.args.into.now) c.self.inside.given n fits
          (rw c.deref.ensures.value at c.copy_from_slice.ensures.after)),
      λ none some. drop_all (c.self.inside.given + n) bytes (omega (
        arith,
        rest,
        c.deref.ensures.len,
        c.copy_from_slice.ensures.len,
        some,
        length-append c.copy_from_slice.new.self (drop n c.args.into.now),
        length-drop n c.args.into.now,
      )),
    )
