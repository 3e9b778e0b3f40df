-- What the index of a table looks predicates up by, and how it hashes them.
use Rattle.std.specs.Prelude.{Bool, ◌&&◌, ◌++◌, nat_eq}
use Rattle.std.specs.Cmp.Lexicographic.{pointwise}
use Rattle.std.specs.Hash as fed
use Rattle.std.specs.Ordering.{int_eq}
use Rattle.ps_term.specs.Hashed.{pair_eq, pair_fed}
use Rattle.ps_atom.specs.declared.key.Key.{Key}

-- the two keys have one predicate
abbrev pub key_eq : Key → Key → Bool
key_eq a b =
    (nat_eq a.predicate.arity b.predicate.arity && int_eq a.predicate.row.term.constant b.predicate.row.term.constant) && pointwise pair_eq a.predicate.row.term.pairs b.predicate.row.term.pairs

-- what a hash is fed of a key
abbrev pub key_fed : Key → fed.HashWrites
key_fed a =
    (fed.u32 a.predicate.arity ++ fed.i128 a.predicate.row.term.constant) ++ fed.slice pair_fed a.predicate.row.term.pairs
