-- Blanks and comments: the count of their bytes gives a gap, and any gap is counted.
use Rattle.std.proofs.Common.{◌≡◌, ℕ, suc, ◌+◌, ◌≤◌, Bool, true, false, not, ◌&&◌, ◌||◌, eqb, cond, List, [], ◌∷◌, ◌++◌, length, take, drop, Option, Some, None, slice_index, refl, sym, ◌∙◌, ap, arith, add-one, append_assoc}
use Rattle.std.specs.List.{list_all}
use Rattle.std.proofs.lemmas.Bool.{eqb-true, and_parts}
use Rattle.std.proofs.lemmas.List.{length-append, length-take-le, take-append-drop}
use Rattle.ps_token.specs.Lexing.{is_blank, is_comment_byte, EndsComment, IsGap, Nothing, Blank, Comment, StartsNoGap}
use Rattle.ps_token.specs.inner.Scanning.{gap_step, gap_from, gap_len}

-- ---- one byte

pub gap_goes : (inside next : Bool) (b : ℕ) (bs : List ℕ) → gap_step inside b (slice_index bs 0) ≡ Some next → gap_from inside (b ∷ bs) ≡ gap_from next bs + 1
gap_goes inside next b bs h = ap (λ (o : Option Bool). elim o as (λ _. ℕ) [ None ↦ 0 | Some d ↦ gap_from d bs + 1 ]) h

pub gap_ends : (inside : Bool) (b : ℕ) (bs : List ℕ) → gap_step inside b (slice_index bs 0) ≡ None → gap_from inside (b ∷ bs) ≡ 0
gap_ends inside b bs h = ap (λ (o : Option Bool). elim o as (λ _. ℕ) [ None ↦ 0 | Some d ↦ gap_from d bs + 1 ]) h

step_blank : (b next : ℕ) → is_blank b ≡ true → gap_step false b next ≡ Some false
step_blank b next h = ap (λ (t : Bool). cond t (Some false) (cond (eqb b 47 && eqb next 47) (Some true) None)) h

step_inside : (b next : ℕ) (t : Bool) → eqb b 10 ≡ t → gap_step true b next ≡ Some (not t)
step_inside b next t h = ap (λ (u : Bool). Some (not u)) h

-- ---- a gap is counted

comment_byte : (b : ℕ) (t : Bool) → eqb b 10 ≡ t → is_comment_byte b ≡ true → eqb b 10 ≡ false
comment_byte b true e h = cc
comment_byte b false e h = e

comment_more : (b : ℕ) (body rest : List ℕ) (t : Bool) → is_comment_byte b ≡ t → (t && list_all is_comment_byte body) ≡ true → (list_all is_comment_byte body ≡ true → gap_from true (body ++ rest) ≡ length body + gap_from true rest) → gap_from true (b ∷ (body ++ rest)) ≡ length (b ∷ body) + gap_from true rest
comment_more b body rest true e h next = omega (arith, next h, gap_goes true true b (body ++ rest) (step_inside b (slice_index (body ++ rest) 0) false (comment_byte b (eqb b 10) refl e)))
comment_more b body rest false e h next = cc

comment_len : (body rest : List ℕ) → list_all is_comment_byte body ≡ true → gap_from true (body ++ rest) ≡ length body + gap_from true rest
comment_len [] rest h = omega arith
comment_len (b ∷ body) rest h = comment_more b body rest (is_comment_byte b) refl h (comment_len body rest)

comment_end : (rest : List ℕ) → EndsComment rest → gap_from true rest ≡ gap_from false rest
comment_end [] h = refl
comment_end (b ∷ bs) h = rw h refl

pub gap_counted : (after text : List ℕ) → IsGap after text → gap_len after ≡ 0 → gap_len (text ++ after) ≡ length text
gap_counted after text Nothing h = h
gap_counted after text (Blank b rest blank gap) h =
    omega (arith, gap_counted after rest gap h, gap_goes false false b (rest ++ after) (step_blank b (slice_index (rest ++ after) 0) blank))
gap_counted after text (Comment body rest inside ends gap) h =
    omega (arith, length-append body rest, gap_counted after rest gap h, comment_len body (rest ++ after) inside, comment_end (rest ++ after) ends, ap (gap_from true) (append_assoc body rest after))

-- ---- what is counted is a gap

-- A text that begins inside a comment: what is left of the comment, and a gap.
record InComment (after text : List ℕ) : Type 0 where
  body : List ℕ
  rest : List ℕ
  is : text ≡ body ++ rest
  inside : list_all is_comment_byte body ≡ true
  ends : EndsComment (rest ++ after)
  gap : IsGap after rest

abbrev Sound : Bool → List ℕ → Type 0
Sound false bs = IsGap (drop (gap_from false bs) bs) (take (gap_from false bs) bs)
Sound true bs = InComment (drop (gap_from true bs) bs) (take (gap_from true bs) bs)

blank_front : (b : ℕ) (bs : List ℕ) (n m : ℕ) → m ≡ n + 1 → is_blank b ≡ true → IsGap (drop n bs) (take n bs) → IsGap (drop m (b ∷ bs)) (take m (b ∷ bs))
blank_front b bs n m e h gap = let s : m ≡ suc n = omega arith in rw s (Blank b (take n bs) h gap)

comment_front : (b c : ℕ) (cs : List ℕ) (n m : ℕ) → b ≡ 47 → c ≡ 47 → m ≡ n + 2 → InComment (drop n cs) (take n cs) → IsGap (drop m (b ∷ (c ∷ cs))) (take m (b ∷ (c ∷ cs)))
comment_front b c cs n m hb hc e in_comment =
    let s : m ≡ suc (suc n) = omega arith in
    rw (s, in_comment.is, hb, hc) (Comment in_comment.body in_comment.rest in_comment.inside in_comment.ends in_comment.gap)

inside_more : (b : ℕ) (bs : List ℕ) (n m : ℕ) → m ≡ n + 1 → eqb b 10 ≡ false → InComment (drop n bs) (take n bs) → InComment (drop m (b ∷ bs)) (take m (b ∷ bs))
inside_more b bs n m e h c =
    let s : m ≡ suc n = omega arith in
    rw s (record { body = b ∷ c.body; rest = c.rest; is = ap (λ (t : List ℕ). b ∷ t) c.is; inside = rw h c.inside; ends = c.ends; gap = c.gap })

inside_last : (b : ℕ) (bs : List ℕ) (n m : ℕ) → m ≡ n + 1 → b ≡ 10 → IsGap (drop n bs) (take n bs) → InComment (drop m (b ∷ bs)) (take m (b ∷ bs))
inside_last b bs n m e h gap =
    let s : m ≡ suc n = omega arith in
    let blank : is_blank b ≡ true = rw h refl in
    rw s (record { body = []; rest = b ∷ take n bs; is = refl; inside = refl; ends = h; gap = Blank b (take n bs) blank gap })

inside_front : (b : ℕ) (bs : List ℕ) (t : Bool) → eqb b 10 ≡ t → Sound true bs → Sound false bs → Sound true (b ∷ bs)
inside_front b bs true e c gap = inside_last b bs (gap_from false bs) (gap_from true (b ∷ bs)) (gap_goes true false b bs (step_inside b (slice_index bs 0) true e)) (eqb-true b 10 e) gap
inside_front b bs false e c gap = inside_more b bs (gap_from true bs) (gap_from true (b ∷ bs)) (gap_goes true true b bs (step_inside b (slice_index bs 0) false e)) e c

abbrev SoundTail : List ℕ → Type 0
SoundTail [] = Unit {0}
SoundTail (c ∷ cs) = Sound true cs

step_other : (b next : ℕ) (t : Bool) → is_blank b ≡ false → (eqb b 47 && eqb next 47) ≡ t → gap_step false b next ≡ cond t (Some true) None
step_other b next t h e = ap (λ (u : Bool). cond u (Some false) (cond (eqb b 47 && eqb next 47) (Some true) None)) h ∙ ap (λ (u : Bool). cond u (Some true) None) e

slashes : (b : ℕ) (bs : List ℕ) → b ≡ 47 → slice_index bs 0 ≡ 47 → gap_step false b (slice_index bs 0) ≡ Some true → SoundTail bs → Sound false (b ∷ bs)
slashes b [] e f g c = absurd (omega arith)
slashes b (c ∷ cs) e f g tail =
    let n : gap_from false (b ∷ (c ∷ cs)) ≡ gap_from true (c ∷ cs) + 1 = gap_goes false true b (c ∷ cs) g in
    let not_feed : eqb c 10 ≡ false = rw f refl in
    let m : gap_from true (c ∷ cs) ≡ gap_from true cs + 1 = gap_goes true true c cs (step_inside c (slice_index cs 0) false not_feed) in
    let both : gap_from false (b ∷ (c ∷ cs)) ≡ gap_from true cs + 2 = omega arith in
    comment_front b c cs (gap_from true cs) (gap_from false (b ∷ (c ∷ cs))) e f both tail

other_front : (b : ℕ) (bs : List ℕ) (t : Bool) → is_blank b ≡ false → (eqb b 47 && eqb (slice_index bs 0) 47) ≡ t → SoundTail bs → Sound false (b ∷ bs)
other_front b bs true h e tail =
    let both = and_parts (eqb b 47) (eqb (slice_index bs 0) 47) e in
    slashes b bs (eqb-true b 47 both.0) (eqb-true (slice_index bs 0) 47 both.1) (step_other b (slice_index bs 0) true h e) tail
other_front b bs false h e tail = rw (gap_ends false b bs (step_other b (slice_index bs 0) false h e)) Nothing

gap_front : (b : ℕ) (bs : List ℕ) (t : Bool) → is_blank b ≡ t → Sound false bs → SoundTail bs → Sound false (b ∷ bs)
gap_front b bs true h gap tail = blank_front b bs (gap_from false bs) (gap_from false (b ∷ bs)) (gap_goes false false b bs (step_blank b (slice_index bs 0) h)) h gap
gap_front b bs false h gap tail = other_front b bs (eqb b 47 && eqb (slice_index bs 0) 47) h refl tail

sound : (inside : Bool) (bs : List ℕ) → Sound inside bs
sound false [] = Nothing
sound true [] = record { body = []; rest = []; is = refl; inside = refl; ends = tt; gap = Nothing }
sound true (b ∷ bs) = inside_front b bs (eqb b 10) refl (sound true bs) (sound false bs)
sound false (b ∷ []) = gap_front b [] (is_blank b) refl (sound false []) tt
sound false (b ∷ (c ∷ cs)) = gap_front b (c ∷ cs) (is_blank b) refl (sound false (c ∷ cs)) (sound true cs)

pub gap_is : (bs : List ℕ) → IsGap (drop (gap_len bs) bs) (take (gap_len bs) bs)
gap_is bs = sound false bs

-- ---- after what is counted no gap begins

ends_outside : (inside : Bool) (b : ℕ) (bs : List ℕ) → gap_step inside b (slice_index bs 0) ≡ None → gap_len (b ∷ bs) ≡ 0
ends_outside false b bs h = gap_ends false b bs h
ends_outside true b bs h = cc

stops_step : (inside : Bool) (b : ℕ) (bs : List ℕ) (o : Option Bool) → gap_step inside b (slice_index bs 0) ≡ o → ((d : Bool) → gap_len (drop (gap_from d bs) bs) ≡ 0) → gap_len (drop (gap_from inside (b ∷ bs)) (b ∷ bs)) ≡ 0
stops_step inside b bs None h next = rw (gap_ends inside b bs h) (ends_outside inside b bs h)
stops_step inside b bs (Some d) h next = rw (gap_goes inside d b bs h, add-one) (next d)

stops : (inside : Bool) (bs : List ℕ) → gap_len (drop (gap_from inside bs) bs) ≡ 0
stops inside [] = refl
stops inside (b ∷ bs) = stops_step inside b bs (gap_step inside b (slice_index bs 0)) refl (λ d. stops d bs)

pub gap_stops : (bs : List ℕ) → gap_len (drop (gap_len bs) bs) ≡ 0
gap_stops bs = stops false bs

within_step : (inside : Bool) (b : ℕ) (bs : List ℕ) (o : Option Bool) → gap_step inside b (slice_index bs 0) ≡ o → ((d : Bool) → gap_from d bs ≤ length bs) → gap_from inside (b ∷ bs) ≤ length (b ∷ bs)
within_step inside b bs None h next = omega (arith, gap_ends inside b bs h)
within_step inside b bs (Some d) h next = omega (arith, gap_goes inside d b bs h, next d)

within : (inside : Bool) (bs : List ℕ) → gap_from inside bs ≤ length bs
within inside [] = omega arith
within inside (b ∷ bs) = within_step inside b bs (gap_step inside b (slice_index bs 0)) refl (λ d. within d bs)

pub gap_within : (bs : List ℕ) → gap_len bs ≤ length bs
gap_within bs = within false bs

-- ---- "no gap begins" is that none is counted

gap_none : (after text : List ℕ) → IsGap after text → gap_len (text ++ after) ≡ 0 → text ≡ []
gap_none after text Nothing h = refl
gap_none after text (Blank b rest blank gap) h =
    absurd (omega (arith, gap_goes false false b (rest ++ after) (step_blank b (slice_index (rest ++ after) 0) blank)))
gap_none after text (Comment body rest inside ends gap) h = absurd (omega arith)

pub starts_no_gap : (bs : List ℕ) → gap_len bs ≡ 0 → StartsNoGap bs
starts_no_gap bs h text after gap e = gap_none after text gap (ap gap_len (sym e) ∙ h)

pub counts_no_gap : (bs : List ℕ) → StartsNoGap bs → gap_len bs ≡ 0
counts_no_gap bs no_gap =
    let e : take (gap_len bs) bs ≡ [] = no_gap (take (gap_len bs) bs) (drop (gap_len bs) bs) (gap_is bs) (sym (take-append-drop (gap_len bs) bs)) in
    omega (arith, ap length e, length-take-le (gap_len bs) bs (gap_within bs))

-- A byte that is neither a blank nor `/` begins no gap.
or_false : (a b : Bool) → (a || b) ≡ false → (a ≡ false) × (b ≡ false)
or_false false b h = (refl, h)
or_false true b h = cc

pub no_gap_at : (b : ℕ) (bs : List ℕ) → (is_blank b || eqb b 47) ≡ false → gap_len (b ∷ bs) ≡ 0
no_gap_at b bs h =
    let both = or_false (is_blank b) (eqb b 47) h in
    gap_ends false b bs (step_other b (slice_index bs 0) false both.0 (rw (both.1) refl))
