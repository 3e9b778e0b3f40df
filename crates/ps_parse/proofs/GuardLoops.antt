-- The laws of what is read as long as it goes on.
use Rattle.std.proofs.Common.{◌≡◌, ℕ, zero, suc, ◌-◌, ◌<◌, ◌≤◌, Bool, true, false, List, [], ◌∷◌, ◌++◌, length, drop, Ok, refl, sym, ap, subst, ◌∙◌, arith, append_assoc}
use Rattle.std.specs.Prelude.{if◌then◌else◌}
use Rattle.std.specs.List.{flat_map, AllByRecursion}
use Rattle.std.proofs.lemmas.Bool.{true≢false}
use Rattle.ps_token.specs.declared.place.Place.{Place}
use Rattle.ps_parse.specs.declared.read_refusal.ReadRefusal.{ReadRefusal}
use Rattle.ps_parse.specs.Causes.{last_of}
use Rattle.ps_parse.specs.Inner.Reading.{WordsAhead, ReadWords, words_while}
use Rattle.ps_lines.specs.Steps.{◌>>=◌}
use Rattle.ps_grammar.specs.Spelling.{Piece, pieces}
use Rattle.ps_parse.proofs.Steps.{places, Alike, IsTest}
use Rattle.ps_parse.proofs.Guards.{Keeps, keeps_bind, keeps_end, told, Went, Stood, Made, Guards, went_places, went_as, stood_as, example_of}
use Rattle.ps_parse.proofs.GuardSteps.{room_left, pair_pieces, Both, Joins, went_then, stood_then, stood_first}

-- A repetition goes on where a text begins, which is of a word at least, and a text may follow another.
pub record GoesOn {C : Type 0} (begins : List Piece → Bool) (spell : C → List Piece) (follows : C → List Piece → Type 0) : Type 0 where
  pub starts : (c : C) (rest : List Piece) → begins (spell c ++ rest) ≡ true
  pub joins : (c d : C) (rest : List Piece) → follows c (spell d ++ rest)
  pub some : (c : C) → 1 ≤ length (spell c)

-- what may follow texts: where none begins, and where it may follow the last one
abbrev pub Ends : {C : Type 0} → (List Piece → Bool) → (C → List Piece → Type 0) → List C → List Piece → Type 0
Ends begins follows [] rest = begins rest ≡ false
Ends begins follows (c ∷ cs) rest = (begins rest ≡ false) × follows (last_of c cs) rest

-- the trees of texts, one after the other
abbrev pub list_trees : {C A : Type 0} → (C → List Piece) → (C → List Place → A) → List C → List Place → List A
list_trees spell tree [] ps = []
list_trees spell tree (c ∷ cs) ps = tree c ps ∷ list_trees spell tree cs (drop (length (spell c)) ps)

-- a first text and further ones
abbrev pub cons : {C : Type 0} → C × List C → List C
cons c = c.0 ∷ c.1

-- what may follow a first text and further ones
pub first_joins : {C : Type 0} {begins : List Piece → Bool} {spell : C → List Piece} {follows : C → List Piece → Type 0} → GoesOn begins spell follows → (c : C) (cs : List C) (rest : List Piece) → Ends begins follows (c ∷ cs) rest → follows c (flat_map spell cs ++ rest)
first_joins on c [] rest stop = stop.1
first_joins {spell = spell} {follows = follows} on c (d ∷ ds) rest stop = subst (follows c) (sym (append_assoc (spell d) (flat_map spell ds) rest)) (on.joins c d (flat_map spell ds ++ rest))

further_ends : {C : Type 0} (begins : List Piece → Bool) (follows : C → List Piece → Type 0) (c : C) (cs : List C) (rest : List Piece) → Ends begins follows (c ∷ cs) rest → Ends begins follows cs rest
further_ends begins follows c [] rest stop = stop.0
further_ends begins follows c (d ∷ ds) rest stop = stop

pub more_joins : {C : Type 0} {begins : List Piece → Bool} {spell : C → List Piece} {follows : C → List Piece → Type 0} → GoesOn begins spell follows → Joins (flat_map spell) follows (Ends begins follows) (λ c. Ends begins follows (cons c))
more_joins {begins = begins} {follows = follows} on = record { first = λ c rest stop. first_joins on c.0 c.1 rest stop; second = λ c rest stop. further_ends begins follows c.0 c.1 rest stop }

-- where it goes on, the texts have a first one
pub turn_only : {C : Type 0} {goes : WordsAhead → Bool} {begins : List Piece → Bool} {okay : C → Type 0} {at after : WordsAhead} (spell : C → List Piece) (follows : C → List Piece → Type 0) → IsTest goes begins → goes at ≡ true
    → (r : Went (pair_pieces spell (flat_map spell)) (Both okay (AllByRecursion okay)) (λ c. Ends begins follows (cons c)) at after) (cs : List C) (ps tail : List Piece)
    → AllByRecursion okay cs → Ends begins follows cs tail → Alike (pieces after.words) ps → pieces r.front ++ ps ≡ flat_map spell cs ++ tail → (cs ≡ cons r.text) × (ps ≡ tail)
turn_only {at = at} {after = after} spell follows test e r [] ps tail fine stop alike h = absurd (true≢false (sym e ∙ told test at r.front after.words ps tail r.split alike h ∙ stop))
turn_only spell follows test e r (d ∷ ds) ps tail fine stop alike h =
    let one : ((d, ds) ≡ r.text) × (ps ≡ tail) = r.only (d, ds) ps tail fine stop alike h in
    (ap (λ c. cons c) one.0, one.1)

turn_none : {C : Type 0} {goes : WordsAhead → Bool} {begins : List Piece → Bool} {okay : C → Type 0} {at : WordsAhead} {f : ReadRefusal} (spell : C → List Piece) (follows : C → List Piece → Type 0) → IsTest goes begins → goes at ≡ true
    → (r : Stood (pair_pieces spell (flat_map spell)) (Both okay (AllByRecursion okay)) (λ c. Ends begins follows (cons c)) at f) → (cs : List C) (ps tail : List Piece)
    → AllByRecursion okay cs → Ends begins follows cs tail → Alike (pieces r.rest) ps → pieces r.front ++ ps ≡ flat_map spell cs ++ tail → ⊥
turn_none {at = at} spell follows test e r [] ps tail fine stop alike h = true≢false (sym e ∙ told test at r.front r.rest ps tail r.split alike h ∙ stop)
turn_none spell follows test e r (d ∷ ds) ps tail fine stop alike h = r.none (d, ds) ps tail fine stop alike h

turn_stood : {C : Type 0} {goes : WordsAhead → Bool} {begins : List Piece → Bool} {okay : C → Type 0} {at : WordsAhead} {f : ReadRefusal} (spell : C → List Piece) (follows : C → List Piece → Type 0) → IsTest goes begins → goes at ≡ true
    → Stood (pair_pieces spell (flat_map spell)) (Both okay (AllByRecursion okay)) (λ c. Ends begins follows (cons c)) at f → Stood (flat_map spell) (AllByRecursion okay) (Ends begins follows) at f
turn_stood {begins = begins} {okay = okay} spell follows test e r = stood_as (flat_map spell) (AllByRecursion okay) (Ends begins follows) (λ c. cons c) (λ c. refl) (λ c h. h) r (turn_none spell follows test e r)

-- after the first turn, what the others do
abbrev pub turn_goes : {C : Type 0} {goes : WordsAhead → Bool} {begins : List Piece → Bool} {spell : C → List Piece} {okay : C → Type 0} {follows : C → List Piece → Type 0} {at mid after : WordsAhead} → IsTest goes begins → GoesOn begins spell follows → goes at ≡ true
    → Went spell okay follows at mid → Went (flat_map spell) (AllByRecursion okay) (Ends begins follows) mid after → Went (flat_map spell) (AllByRecursion okay) (Ends begins follows) at after
turn_goes {begins = begins} {spell = spell} {okay = okay} {follows = follows} test on e p q =
    went_as (flat_map spell) (AllByRecursion okay) (Ends begins follows) (λ c. cons c) (λ c. refl) (λ c h. h) (went_then (more_joins on) p q) (turn_only spell follows test e (went_then (more_joins on) p q))

pub turn_ends : {C : Type 0} {goes : WordsAhead → Bool} {begins : List Piece → Bool} {spell : C → List Piece} {okay : C → Type 0} {follows : C → List Piece → Type 0} {at mid : WordsAhead} {f : ReadRefusal} → IsTest goes begins → GoesOn begins spell follows → goes at ≡ true
    → Went spell okay follows at mid → Stood (flat_map spell) (AllByRecursion okay) (Ends begins follows) mid f → Stood (flat_map spell) (AllByRecursion okay) (Ends begins follows) at f
turn_ends {spell = spell} {follows = follows} test on e p q = turn_stood spell follows test e (stood_then (more_joins on) p q)

-- the first turn is refused
pub turn_fails : {C : Type 0} {goes : WordsAhead → Bool} {begins : List Piece → Bool} {spell : C → List Piece} {okay : C → Type 0} {follows : C → List Piece → Type 0} {at : WordsAhead} {f : ReadRefusal} → IsTest goes begins → GoesOn begins spell follows → goes at ≡ true
    → Stood spell okay follows at f → Stood (flat_map spell) (AllByRecursion okay) (Ends begins follows) at f
turn_fails {spell = spell} {follows = follows} test on e q = turn_stood spell follows test e (stood_first (more_joins on) (example_of [] tt refl) q)

pub none_begins : {C : Type 0} {goes : WordsAhead → Bool} {begins : List Piece → Bool} {spell : C → List Piece} {follows : C → List Piece → Type 0} (okay : C → Type 0) (at : WordsAhead) → IsTest goes begins → GoesOn begins spell follows → goes at ≡ false
    → (cs : List C) (ps tail : List Piece) → AllByRecursion okay cs → Ends begins follows cs tail → Alike (pieces at.words) ps → ps ≡ flat_map spell cs ++ tail → (cs ≡ []) × (ps ≡ tail)
none_begins okay at test on e [] ps tail fine stop alike h = (refl, h)
none_begins {spell = spell} okay at test on e (d ∷ ds) ps tail fine stop alike h =
    absurd (true≢false (sym (on.starts d (flat_map spell ds ++ tail)) ∙ sym (told test at [] at.words ps _ refl alike (h ∙ append_assoc (spell d) (flat_map spell ds) tail)) ∙ e))

-- there is no turn
abbrev pub turn_stops : {C : Type 0} {goes : WordsAhead → Bool} {begins : List Piece → Bool} {spell : C → List Piece} {okay : C → Type 0} {follows : C → List Piece → Type 0} (at : WordsAhead) → IsTest goes begins → GoesOn begins spell follows → goes at ≡ false
    → Went (flat_map spell) (AllByRecursion okay) (Ends begins follows) at at
turn_stops {spell = spell} {okay = okay} {follows = follows} at test on e = record { text = []; fine = tt; front = []; split = refl; ends = refl; spelled = refl; only = none_begins okay at test on e }

while_stuck : {C A : Type 0} {n : ℕ} {read : ReadWords A} {goes : WordsAhead → Bool} {begins : List Piece → Bool} {spell : C → List Piece} {okay : C → Type 0} {tree : C → List Place → A} {follows : C → List Piece → Type 0}
    → IsTest goes begins → GoesOn begins spell follows → Guards n read spell okay tree follows → (m l : ℕ) → l ≤ m → l ≤ n → (at : WordsAhead) → length at.words < l
    → Keeps (words_while goes read m at) (Made (flat_map spell) (AllByRecursion okay) (list_trees spell tree) (Ends begins follows) at) (Stood (flat_map spell) (AllByRecursion okay) (Ends begins follows) at)
unfolding words_while
while_stuck test on g zero l a b at room = absurd (omega (arith, a, room))
while_stuck {A = A} {read = read} {goes = goes} {begins = begins} {spell = spell} {okay = okay} {tree = tree} {follows = follows} test on g (suc m) l a b at room =
    by_test (goes at) refl (λ mid short. while_stuck test on g m (l - 1) (omega (arith, a)) (omega (arith, b)) mid short)
  where
    by_test : (t : Bool) → goes at ≡ t → ((mid : WordsAhead) → length mid.words < l - 1 → Keeps (words_while goes read m mid) (Made (flat_map spell) (AllByRecursion okay) (list_trees spell tree) (Ends begins follows) mid) (Stood (flat_map spell) (AllByRecursion okay) (Ends begins follows) mid))
        → Keeps {A = List A × WordsAhead} (if t then (read at >>= λ x. words_while goes read m x.1 >>= λ xs. Ok (x.0 ∷ xs.0, xs.1)) else Ok ([], at)) (Made (flat_map spell) (AllByRecursion okay) (list_trees spell tree) (Ends begins follows) at) (Stood (flat_map spell) (AllByRecursion okay) (Ends begins follows) at)
    by_test true e more =
        keeps_bind _ _ _ _ _ _ (g.stuck at (omega (arith, room, b)))
        (λ x p. keeps_bind _ _ _ _ _ _ (more x.1 (room_left l (l - 1) at.words p.went.front x.1.words (spell p.went.text) room p.went.split p.went.spelled (omega (arith, on.some p.went.text, room))))
        (λ y q. keeps_end _ _ _ (record {
          went = turn_goes test on e p.went q.went;
          is = ap (λ (a : A). a ∷ y.0) p.is ∙ ap (λ (as' : List A). tree p.went.text (places at.words) ∷ as') (q.is ∙ ap (list_trees spell tree q.went.text) (went_places p.went));
        }))
        (λ f q. turn_ends test on e p.went q))
        (λ f q. turn_fails test on e q)
    by_test false e more = keeps_end _ _ _ (record { went = turn_stops at test on e; is = refl })

pub while_guards : {C A : Type 0} {n : ℕ} {read : ReadWords A} {goes : WordsAhead → Bool} {begins : List Piece → Bool} {spell : C → List Piece} {okay : C → Type 0} {tree : C → List Place → A} {follows : C → List Piece → Type 0}
    → IsTest goes begins → GoesOn begins spell follows → Guards n read spell okay tree follows → Guards n (words_while goes read n) (flat_map spell) (AllByRecursion okay) (list_trees spell tree) (Ends begins follows)
while_guards {n = n} test on g = record { stuck = λ at room. while_stuck test on g n n (omega arith) (omega arith) at room }
