-- The tokens ahead, from the bytes.
use Rattle.std.proofs.Common.{◌≡◌, ℕ, zero, suc, ◌+◌, ◌-◌, ◌<◌, ◌≤◌, Bool, true, false, ◌||◌, List, [], ◌∷◌, length, get_or, take, drop, Option, Some, None, Ok, Err, refl, sym, ap, subst, ◌∙◌, arith, add-one, eqb}
use Rattle.std.proofs.lemmas.Bool.{eqb-true, ne_eqb, or_left, or_right, cond-true, cond-false}
use Rattle.std.specs.Prelude.{ok_or, option_map, if◌then◌else◌}
use Rattle.std.proofs.lemmas.List.{nil_from_length}
use Rattle.std.proofs.lemmas.Option.{none-some, same_Some}
use Rattle.ps_lines.specs.declared.form_name.FormName.TheVariants as name
use Rattle.ps_lines.specs.Reading.{Position, end_from, done_from, field_from, end_at, done_at, field_at, fault_at, line_fault, member_field, member_from, members_up_to}
use Rattle.ps_lines.specs.Tokens.{LinePart, Field, Newline, onto, part_onto, line_parts, next_field, ahead}
use Rattle.ps_lines.specs.inner.Ahead.{field_ahead, field_ahead_from, field_len}

-- a byte is a blank, a line feed, or one of a field
pub data Byte (b : ℕ) : Type 0 where
  blank : eqb b 32 ≡ true → Byte b
  feed : eqb b 32 ≡ false → eqb b 10 ≡ true → Byte b
  inside : eqb b 32 ≡ false → eqb b 10 ≡ false → Byte b

pub byte_is : (b : ℕ) → Byte b
byte_is b = byte_from b (eqb b 32) (eqb b 10) refl refl
  where
    byte_from : (b : ℕ) (s t : Bool) → eqb b 32 ≡ s → eqb b 10 ≡ t → Byte b
    byte_from b true t p q = blank p
    byte_from b false true p q = feed p q
    byte_from b false false p q = inside p q

-- the tokens of some bytes begin with a field
pub onto_begins : (b : ℕ) (ts : List LinePart) → (f : List ℕ) × (rest : List LinePart) × (part_onto b ts ≡ Field f ∷ rest)
onto_begins b ts =
    elim (byte_is b) [
      | blank p ↦ ([], ts, rw p refl)
      | feed p q ↦ ([], Newline ∷ ts, rw (p, q) refl)
      | inside p q ↦ inside_begins b ts p q
    ]
  where
    inside_begins : (b : ℕ) (ts : List LinePart) → eqb b 32 ≡ false → eqb b 10 ≡ false → (f : List ℕ) × (rest : List LinePart) × (part_onto b ts ≡ Field f ∷ rest)
    inside_begins b [] p q = (b ∷ [], [], rw (p, q) refl)
    inside_begins b (Field f ∷ ts) p q = (b ∷ f, ts, rw (p, q) refl)
    inside_begins b (Newline ∷ ts) p q = (b ∷ [], Newline ∷ ts, rw (p, q) refl)

-- where the line's last field wasn't taken there is no end of a line yet
pub no_end : (line field : ℕ) (bs : List ℕ) → end_from line field (line_parts bs) ≡ Err (record { line = line; field = field; what = name.Count })
no_end line field [] = refl
no_end line field (b ∷ bs) = let p = onto_begins b (line_parts bs) in rw p.2 refl

pub no_done : (line : ℕ) (bs : List ℕ) → 0 < length bs → done_from line (line_parts bs) ≡ Err (record { line = line; field = 0; what = name.Word })
no_done line [] h = absurd (omega arith)
no_done line (b ∷ bs) h = let p = onto_begins b (line_parts bs) in rw p.2 refl

-- what a byte that ends a field, and the bytes behind it, are
abbrev pub behind : List ℕ → List LinePart
behind [] = []
behind (c ∷ bs) = ahead (eqb c 10) bs

field_len-stops : (b : ℕ) (bs : List ℕ) → (eqb b 32 || eqb b 10) ≡ true → field_len (b ∷ bs) ≡ 0
field_len-stops b bs h = cond-true _ _ _ h

field_len-goes : (b : ℕ) (bs : List ℕ) → eqb b 32 ≡ false → eqb b 10 ≡ false → field_len (b ∷ bs) ≡ suc (field_len bs)
field_len-goes b bs p q = cond-false (eqb b 32 || eqb b 10) 0 (field_len bs + 1) (rw (p, q) refl) ∙ add-one (field_len bs)

pub token_onto-blank : (b : ℕ) (ts : List LinePart) → eqb b 32 ≡ true → part_onto b ts ≡ Field [] ∷ ts
token_onto-blank b ts p = cond-true _ _ _ p

pub token_onto-feed : (b : ℕ) (ts : List LinePart) → eqb b 32 ≡ false → eqb b 10 ≡ true → part_onto b ts ≡ Field [] ∷ (Newline ∷ ts)
token_onto-feed b ts p q = cond-false _ _ _ p ∙ cond-true _ _ _ q

pub token_onto-inside : (b : ℕ) (ts : List LinePart) → eqb b 32 ≡ false → eqb b 10 ≡ false → part_onto b ts ≡ onto b ts
token_onto-inside b ts p q = cond-false _ _ _ p ∙ cond-false _ _ _ q

abbrev cut_from : List ℕ → ℕ → List LinePart
cut_from bs n = Field (take n bs) ∷ behind (drop n bs)

inside_cut : (b : ℕ) (bs : List ℕ) → (0 < length bs → line_parts bs ≡ cut_from bs (field_len bs)) → onto b (line_parts bs) ≡ Field (b ∷ take (field_len bs) bs) ∷ behind (drop (field_len bs) bs)
inside_cut b [] h = refl
inside_cut b (c ∷ bs) h = ap (onto b) (h (omega arith))

-- the first field is what stands before the first blank or line feed
pub cut_tokens : (bs : List ℕ) → 0 < length bs → line_parts bs ≡ Field (take (field_len bs) bs) ∷ behind (drop (field_len bs) bs)
cut_tokens [] h = absurd (omega arith)
cut_tokens (b ∷ bs) h =
    elim (byte_is b) [
      | blank p ↦ (let q : eqb b 10 ≡ false = ne_eqb _ _ (λ e. absurd (omega (arith, e, eqb-true _ _ p))) in
          token_onto-blank b (line_parts bs) p ∙ ap (λ (t : Bool). Field [] ∷ ahead t bs) (sym q) ∙ ap (cut_from (b ∷ bs)) (sym (field_len-stops b bs (or_left _ _ p))))
      | feed p q ↦ token_onto-feed b (line_parts bs) p q ∙ ap (λ (t : Bool). Field [] ∷ ahead t bs) (sym q) ∙ ap (cut_from (b ∷ bs)) (sym (field_len-stops b bs (or_right _ _ q)))
      | inside p q ↦ token_onto-inside b (line_parts bs) p q ∙ inside_cut b bs (cut_tokens bs) ∙ ap (cut_from (b ∷ bs)) (sym (field_len-goes b bs p q))
    ]

ahead_last : (line field : ℕ) (bs : List ℕ) → 0 < length bs → length (drop (field_len bs) bs) ≡ 0 → field_ahead_from line field (line_parts bs) ≡ Some (take (field_len bs) bs, record { line = line; field = field + 1; tokens = line_parts (drop (field_len bs) bs) })
ahead_last line field bs h e =
    let none : drop (field_len bs) bs ≡ [] = nil_from_length _ e in
    rw (cut_tokens bs h, none) refl

ahead_more : (line field : ℕ) (bs : List ℕ) → 0 < length bs → 0 < length (drop (field_len bs) bs) → field_ahead_from line field (line_parts bs) ≡ Some (take (field_len bs) bs, record { line = line; field = field + 1; tokens = ahead (eqb (get_or (drop (field_len bs) bs) 0 0) 10) (drop 1 (drop (field_len bs) bs)) })
ahead_more line field bs h more = rw (cut_tokens bs h) (more_at (drop (field_len bs) bs) more)
  where
    more_at : (tail : List ℕ) → 0 < length tail → field_ahead_from line field (Field (take (field_len bs) bs) ∷ behind tail) ≡ Some (take (field_len bs) bs, record { line = line; field = field + 1; tokens = ahead (eqb (get_or tail 0 0) 10) (drop 1 tail) })
    more_at [] h = absurd (omega arith)
    more_at (c ∷ tail) h = refl

-- ---- a field and the place after it

field_of : (line field : ℕ) (ts : List LinePart) → ok_or (field_ahead_from line field ts) (record { line = line; field = field; what = name.Count }) ≡ field_from line field ts
field_of line field [] = refl
field_of line field (Newline ∷ ts) = refl
field_of line field (Field f ∷ ts) = refl

next_of : (line field : ℕ) (ts : List LinePart) → option_map (λ p. p.0) (field_ahead_from line field ts) ≡ next_field ts
next_of line field [] = refl
next_of line field (Newline ∷ ts) = refl
next_of line field (Field f ∷ ts) = refl

pub field_found : (at after : Position) (f : List ℕ) → Some (f, after) ≡ field_ahead at → field_at at ≡ Ok (f, after)
field_found at after f e = sym (field_of at.line at.field at.tokens) ∙ ap (λ o. ok_or o (fault_at at name.Count)) (sym e)

pub field_lacks : (at : Position) → None ≡ field_ahead at → field_at at ≡ Err (fault_at at name.Count)
field_lacks at e = sym (field_of at.line at.field at.tokens) ∙ ap (λ o. ok_or o (fault_at at name.Count)) (sym e)

pub next_found : (at after : Position) (f : List ℕ) → Some (f, after) ≡ field_ahead at → Some f ≡ next_field at.tokens
next_found at after f e = ap (option_map (λ p. p.0)) e ∙ next_of at.line at.field at.tokens

pub next_lacks : (at : Position) → None ≡ field_ahead at → None ≡ next_field at.tokens
next_lacks at e = ap (option_map (λ p. p.0)) e ∙ next_of at.line at.field at.tokens

-- the same field, where the list goes on with it
abbrev passed : (List ℕ → Bool) → Option (List ℕ × Position) → Option (List ℕ × Position)
passed goes None = None
passed goes (Some p) = if goes p.0 then Some p else None

passed_of : (goes : List ℕ → Bool) (line field : ℕ) (ts : List LinePart) → passed goes (field_ahead_from line field ts) ≡ member_from goes line field ts
passed_of goes line field [] = refl
passed_of goes line field (Newline ∷ ts) = refl
passed_of goes line field (Field f ∷ ts) = refl

pub member_found : (goes : List ℕ → Bool) (at after : Position) (f : List ℕ) → Some (f, after) ≡ field_ahead at → goes f ≡ true → member_field goes at ≡ Some (f, after)
member_found goes at after f e test = sym (passed_of goes at.line at.field at.tokens) ∙ ap (passed goes) (sym e) ∙ cond-true _ _ _ test

pub member_stops : (goes : List ℕ → Bool) (at after : Position) (f : List ℕ) → Some (f, after) ≡ field_ahead at → goes f ≡ false → member_field goes at ≡ None
member_stops goes at after f e test = sym (passed_of goes at.line at.field at.tokens) ∙ ap (passed goes) (sym e) ∙ cond-false _ _ _ test

pub member_lacks : (goes : List ℕ → Bool) (at : Position) → None ≡ field_ahead at → member_field goes at ≡ None
member_lacks goes at e = sym (passed_of goes at.line at.field at.tokens) ∙ ap (passed goes) (sym e)

-- ---- counting the members ahead

none_by_tokens : (goes : List ℕ → Bool) (n line field : ℕ) (ts : List LinePart) → member_from goes line field ts ≡ None → members_up_to goes n ts ≡ 0
none_by_tokens goes zero line field ts e = refl
none_by_tokens goes (suc n) line field [] e = refl
none_by_tokens goes (suc n) line field (Newline ∷ ts) e = refl
none_by_tokens goes (suc n) line field (Field f ∷ ts) e = by_test (goes f) (f, record { line = line; field = field + 1; tokens = ts }) e
  where
    by_test : (t : Bool) (p : List ℕ × Position) → (if t then Some p else None) ≡ None → (if t then members_up_to goes n ts + 1 else 0) ≡ 0
    by_test true p e = absurd (none-some p (sym e))
    by_test false p e = refl

more_by_tokens : (goes : List ℕ → Bool) (n line field : ℕ) (ts : List LinePart) (f : List ℕ) (after : Position) → member_from goes line field ts ≡ Some (f, after) → members_up_to goes (suc n) ts ≡ members_up_to goes n after.tokens + 1
more_by_tokens goes n line field [] f after e = absurd (none-some _ e)
more_by_tokens goes n line field (Newline ∷ ts) f after e = absurd (none-some _ e)
more_by_tokens goes n line field (Field g ∷ ts) f after e = by_test (goes g) (g, record { line = line; field = field + 1; tokens = ts }) (f, after) e
  where
    by_test : (t : Bool) (p q : List ℕ × Position) → (if t then Some p else None) ≡ Some q → (if t then members_up_to goes n p.1.tokens + 1 else 0) ≡ members_up_to goes n q.1.tokens + 1
    by_test true p q e = ap (λ (r : List ℕ × Position). members_up_to goes n r.1.tokens + 1) (same_Some p q e)
    by_test false p q e = absurd (none-some q e)

-- the members that were counted, with those ahead, are all
pub record Counted (goes : List ℕ → Bool) (count left : ℕ) (ts : List LinePart) (total : ℕ) : Type 0 where
  pub same : count + members_up_to goes left ts ≡ total

pub counted_none : (goes : List ℕ → Bool) (n : ℕ) (ts : List LinePart) → Counted goes 0 n ts (members_up_to goes n ts)
counted_none goes n ts = record { same = omega arith }

pub counted_stops : (goes : List ℕ → Bool) (count left : ℕ) (at : Position) (total : ℕ) → Counted goes count left at.tokens total → member_field goes at ≡ None → count ≡ total
counted_stops goes count left at total h e = let none = none_by_tokens goes left at.line at.field at.tokens e in omega (arith, none, h.same)

pub counted_more : (goes : List ℕ → Bool) (count most : ℕ) (at after : Position) (f : List ℕ) (total : ℕ) → Counted goes count (most - count) at.tokens total → count < most → member_field goes at ≡ Some (f, after) → Counted goes (count + 1) (most - (count + 1)) after.tokens total
counted_more goes count most at after f total h lt e =
    let k : most - count ≡ suc (most - (count + 1)) = omega arith in
    let one : members_up_to goes (most - count) at.tokens ≡ members_up_to goes (most - (count + 1)) after.tokens + 1 = rw k (more_by_tokens goes (most - (count + 1)) at.line at.field at.tokens f after e) in
    record { same = omega (arith, one, h.same) }

pub counted_all : (goes : List ℕ → Bool) (count most : ℕ) (ts : List LinePart) (total : ℕ) → Counted goes count (most - count) ts total → most ≤ count → count ≡ total
counted_all goes count most ts total h le =
    let k : most - count ≡ 0 = omega arith in
    let none : members_up_to goes (most - count) ts ≡ 0 = rw k refl in
    omega (arith, none, h.same)

-- ---- the same, of a place as the reader keeps it

abbrev pub standing : ℕ → ℕ → Bool → List ℕ → Position
standing line field ended bs = record { line = line; field = field; tokens = ahead ended bs }

some_left : (bs : List ℕ) → eqb (length bs) 0 ≡ false → 0 < length bs
some_left [] h = absurd cc
some_left (b ∷ bs) h = omega arith

pub no_end_at : (line field : ℕ) (ended : Bool) (bs : List ℕ) → ended ≡ false → end_at (standing line field ended bs) ≡ Err (fault_at (standing line field ended bs) name.Count)
no_end_at line field ended bs e = rw e (no_end line field bs)

pub no_done_at : (line field : ℕ) (ended : Bool) (bs : List ℕ) → ended ≡ false → eqb (length bs) 0 ≡ false → Err (line_fault (standing line field ended bs) name.Word) ≡ done_at (standing line field ended bs)
no_done_at line field ended bs e some = rw e (sym (no_done line bs (some_left bs some)))

pub ahead_last_at : (line field len : ℕ) (ended : Bool) (bs front tail : List ℕ) → ended ≡ false → eqb (length bs) 0 ≡ false → len ≡ field_len bs → front ≡ take len bs → tail ≡ drop len bs → eqb (length tail) 0 ≡ true → Some (front, standing line (field + 1) false tail) ≡ field_ahead (standing line field ended bs)
ahead_last_at line field len ended bs front tail e some is front-is tail-is none =
    rw (e, tail-is, front-is, is) (sym (ahead_last line field bs (some_left bs some) (ap (λ (n : ℕ). length (drop n bs)) (sym is) ∙ ap length (sym tail-is) ∙ eqb-true _ _ none)))

pub ahead_more_at : (line field len : ℕ) (ended : Bool) (bs front tail rest : List ℕ) → ended ≡ false → eqb (length bs) 0 ≡ false → len ≡ field_len bs → front ≡ take len bs → tail ≡ drop len bs → eqb (length tail) 0 ≡ false → rest ≡ drop 1 tail → Some (front, standing line (field + 1) (eqb (get_or tail 0 0) 10) rest) ≡ field_ahead (standing line field ended bs)
ahead_more_at line field len ended bs front tail rest e some is front-is tail-is more rest-is =
    let tail-at : tail ≡ drop (field_len bs) bs = tail-is ∙ ap (λ (n : ℕ). drop n bs) is in
    rw (e, rest-is, front-is, is, tail-at) (sym (ahead_more line field bs (some_left bs some) (subst (λ (t : List ℕ). 0 < length t) tail-at (some_left tail more))))
