-- Tokens: what is found at the front of a text is a token, and any token is found.
use Rattle.std.proofs.Common.{◌≡◌, ◌≢◌, ℕ, suc, ◌+◌, ◌<◌, ◌≤◌, Bool, true, false, ◌&&◌, eqb, leb, cond, List, [], ◌∷◌, ◌++◌, length, take, drop, Option, Some, None, slice_index, option_map, refl, sym, ◌∙◌, ap, subst, arith, lit<}
use Rattle.std.specs.Prelude.{codes}
use Rattle.std.specs.List.{list_all, prefix_len}
use Rattle.std.specs.Str.{bytes_eq}
use Rattle.std.proofs.lemmas.Bool.{eqb-true, and_parts}
use Rattle.std.proofs.lemmas.Bool.Decides.{nat_tests}
use Rattle.std.proofs.lemmas.Bool.Decides.{nat_tests}
use Rattle.std.proofs.lemmas.Slice.Eq.{bytes_eq-Decides}
use Rattle.std.proofs.lemmas.List.{length-take-le}
use Rattle.std.proofs.lemmas.List.Sums.{prefix_len-le-length}
use Rattle.std.proofs.Math.Seq.{take-append_seam}
use Rattle.ps_token.specs.declared.token_kind.TokenKind.{TokenKind}
use Rattle.ps_token.specs.declared.token_kind.TokenKind.TheVariants.{Name, Number, Global, Local, Init, Thread, Havoc, Assume, Assert, Skip, Atomic, If, Else, While, Becomes, LessEq, GreaterEq, EqualEqual, NotEqual, And, Or, Less, Greater, Not, Equal, Plus, Minus, Star, OpenParen, CloseParen, OpenBrace, CloseBrace, Semicolon}
use Rattle.ps_lines.specs.Decimal.{are_digits}
use Rattle.ps_token.specs.Lexing.{is_letter, is_digit, is_name_byte, spelling, IsWord, IsName, IsNumber, IsSpelled, carries_on, IsWhole, IsToken}
use Rattle.ps_token.specs.inner.Scanning.{first_spelled, reserved, double_signs, single_signs, word_kind, double_sign, single_sign, sign_token, number_token, word_token, token_at}

-- ---- runs of bytes that pass a test

-- The text is empty, or begins with a byte that fails.
abbrev pub StopsBy : (ℕ → Bool) → List ℕ → Type 0
StopsBy p [] = Unit {0}
StopsBy p (b ∷ bs) = p b ≡ false

run_more : (p : ℕ → Bool) (b : ℕ) (text after : List ℕ) (t : Bool) → p b ≡ t → (t && list_all p text) ≡ true → (list_all p text ≡ true → prefix_len p (text ++ after) ≡ length text) → prefix_len p (b ∷ (text ++ after)) ≡ length (b ∷ text)
run_more p b text after true e h next = rw (e, next h) (omega arith)
run_more p b text after false e h next = cc

pub run_len : (p : ℕ → Bool) (text after : List ℕ) → list_all p text ≡ true → StopsBy p after → prefix_len p (text ++ after) ≡ length text
run_len p [] [] h s = refl
run_len p [] (b ∷ bs) h s = rw s refl
run_len p (b ∷ text) after h s = run_more p b text after (p b) refl h (λ k. run_len p text after k s)

front_passes_step : (p : ℕ → Bool) (b : ℕ) (bs : List ℕ) (t : Bool) → p b ≡ t → list_all p (take (prefix_len p bs) bs) ≡ true → list_all p (take (cond t (1 + prefix_len p bs) 0) (b ∷ bs)) ≡ true
front_passes_step p b bs true e next = let s : 1 + prefix_len p bs ≡ suc (prefix_len p bs) = omega arith in rw (s, e) next
front_passes_step p b bs false e next = refl

pub front_passes : (p : ℕ → Bool) (bs : List ℕ) → list_all p (take (prefix_len p bs) bs) ≡ true
front_passes p [] = refl
front_passes p (b ∷ bs) = front_passes_step p b bs (p b) refl (front_passes p bs)

front_stops_step : (p : ℕ → Bool) (b : ℕ) (bs : List ℕ) (t : Bool) → p b ≡ t → StopsBy p (drop (prefix_len p bs) bs) → StopsBy p (drop (cond t (1 + prefix_len p bs) 0) (b ∷ bs))
front_stops_step p b bs true e next = let s : 1 + prefix_len p bs ≡ suc (prefix_len p bs) = omega arith in rw s next
front_stops_step p b bs false e next = e

pub front_stops : (p : ℕ → Bool) (bs : List ℕ) → StopsBy p (drop (prefix_len p bs) bs)
front_stops p [] = tt
front_stops p (b ∷ bs) = front_stops_step p b bs (p b) refl (front_stops p bs)

pub digits_are : (bytes : List ℕ) → are_digits bytes ≡ list_all is_digit bytes
digits_are [] = refl
digits_are (b ∷ bs) = ap (λ (t : Bool). is_digit b && t) (digits_are bs)

-- ---- spellings

spelled_step : {A : Type 0} (P : A → Type 0) (found : TokenKind → A) (rest : A) (kind : TokenKind) (text : List ℕ) (t : Bool) → bytes_eq text (spelling kind) ≡ t → (text ≡ spelling kind → P (found kind)) → (text ≢ spelling kind → P rest) → P (cond t (found kind) rest)
spelled_step P found rest kind text true e if_same if_other = if_same ((bytes_eq-Decides text (spelling kind)).0 e)
spelled_step P found rest kind text false e if_same if_other = if_other (λ same. (let f = (bytes_eq-Decides text (spelling kind)).1 same in cc))

-- What holds of each kind by which the text is spelled, and of the other value where it is spelled by none.
abbrev Found : {A : Type 0} → (A → Type 0) → (TokenKind → A) → A → List TokenKind → List ℕ → Type 0
Found P found other [] text = P other
Found P found other (kind ∷ kinds) text = (text ≡ spelling kind → P (found kind)) × (text ≢ spelling kind → Found P found other kinds text)

pub found_is : {A : Type 0} (P : A → Type 0) (found : TokenKind → A) (other : A) (kinds : List TokenKind) (text : List ℕ) → Found P found other kinds text → P (first_spelled found other kinds text)
found_is P found other [] text h = h
found_is P found other (kind ∷ kinds) text h =
    spelled_step P found (first_spelled found other kinds text) kind text (bytes_eq text (spelling kind)) refl h.0 (λ n. found_is P found other kinds text (h.1 n))

-- ---- words

word_begins : (text : List ℕ) → IsWord text → is_letter (slice_index text 0) ≡ true
word_begins [] w = absurd w
word_begins (b ∷ bs) w = w.0

word_passes : (text : List ℕ) → IsWord text → list_all is_name_byte text ≡ true
word_passes [] w = absurd w
word_passes (b ∷ bs) w = rw (w.0) (w.1)

word_some : (text : List ℕ) → IsWord text → 0 < length text
word_some [] w = absurd w
word_some (b ∷ bs) w = omega arith

-- A text whose first byte is no letter isn't a word.
not_word : (text rest : List ℕ) (b : ℕ) → IsWord text → is_letter b ≡ false → text ≢ b ∷ rest
not_word text rest b w h e = (let f : is_letter b ≡ true = ap (λ (t : List ℕ). is_letter (slice_index t 0)) (sym e) ∙ word_begins text w in cc)

not_empty : (text : List ℕ) → IsWord text → text ≢ []
not_empty text w e = absurd (omega (arith, word_some text w, ap length e))

word_free : (text : List ℕ) → IsWord text → text ≢ spelling Global → text ≢ spelling Local → text ≢ spelling Init → text ≢ spelling Thread → text ≢ spelling Havoc → text ≢ spelling Assume → text ≢ spelling Assert → text ≢ spelling Skip → text ≢ spelling Atomic → text ≢ spelling If → text ≢ spelling Else → text ≢ spelling While → (kind : TokenKind) → text ≢ spelling kind
word_free text w n0 n1 n2 n3 n4 n5 n6 n7 n8 n9 n10 n11 Name = not_empty text w
word_free text w n0 n1 n2 n3 n4 n5 n6 n7 n8 n9 n10 n11 Number = not_empty text w
word_free text w n0 n1 n2 n3 n4 n5 n6 n7 n8 n9 n10 n11 Global = n0
word_free text w n0 n1 n2 n3 n4 n5 n6 n7 n8 n9 n10 n11 Local = n1
word_free text w n0 n1 n2 n3 n4 n5 n6 n7 n8 n9 n10 n11 Init = n2
word_free text w n0 n1 n2 n3 n4 n5 n6 n7 n8 n9 n10 n11 Thread = n3
word_free text w n0 n1 n2 n3 n4 n5 n6 n7 n8 n9 n10 n11 Havoc = n4
word_free text w n0 n1 n2 n3 n4 n5 n6 n7 n8 n9 n10 n11 Assume = n5
word_free text w n0 n1 n2 n3 n4 n5 n6 n7 n8 n9 n10 n11 Assert = n6
word_free text w n0 n1 n2 n3 n4 n5 n6 n7 n8 n9 n10 n11 Skip = n7
word_free text w n0 n1 n2 n3 n4 n5 n6 n7 n8 n9 n10 n11 Atomic = n8
word_free text w n0 n1 n2 n3 n4 n5 n6 n7 n8 n9 n10 n11 If = n9
word_free text w n0 n1 n2 n3 n4 n5 n6 n7 n8 n9 n10 n11 Else = n10
word_free text w n0 n1 n2 n3 n4 n5 n6 n7 n8 n9 n10 n11 While = n11
word_free text w n0 n1 n2 n3 n4 n5 n6 n7 n8 n9 n10 n11 Becomes = not_word text (codes "=") 58 w refl
word_free text w n0 n1 n2 n3 n4 n5 n6 n7 n8 n9 n10 n11 LessEq = not_word text (codes "=") 60 w refl
word_free text w n0 n1 n2 n3 n4 n5 n6 n7 n8 n9 n10 n11 GreaterEq = not_word text (codes "=") 62 w refl
word_free text w n0 n1 n2 n3 n4 n5 n6 n7 n8 n9 n10 n11 EqualEqual = not_word text (codes "=") 61 w refl
word_free text w n0 n1 n2 n3 n4 n5 n6 n7 n8 n9 n10 n11 NotEqual = not_word text (codes "=") 33 w refl
word_free text w n0 n1 n2 n3 n4 n5 n6 n7 n8 n9 n10 n11 And = not_word text (codes "&") 38 w refl
word_free text w n0 n1 n2 n3 n4 n5 n6 n7 n8 n9 n10 n11 Or = not_word text (codes "|") 124 w refl
word_free text w n0 n1 n2 n3 n4 n5 n6 n7 n8 n9 n10 n11 Less = not_word text (codes "") 60 w refl
word_free text w n0 n1 n2 n3 n4 n5 n6 n7 n8 n9 n10 n11 Greater = not_word text (codes "") 62 w refl
word_free text w n0 n1 n2 n3 n4 n5 n6 n7 n8 n9 n10 n11 Not = not_word text (codes "") 33 w refl
word_free text w n0 n1 n2 n3 n4 n5 n6 n7 n8 n9 n10 n11 Equal = not_word text (codes "") 61 w refl
word_free text w n0 n1 n2 n3 n4 n5 n6 n7 n8 n9 n10 n11 Plus = not_word text (codes "") 43 w refl
word_free text w n0 n1 n2 n3 n4 n5 n6 n7 n8 n9 n10 n11 Minus = not_word text (codes "") 45 w refl
word_free text w n0 n1 n2 n3 n4 n5 n6 n7 n8 n9 n10 n11 Star = not_word text (codes "") 42 w refl
word_free text w n0 n1 n2 n3 n4 n5 n6 n7 n8 n9 n10 n11 OpenParen = not_word text (codes "") 40 w refl
word_free text w n0 n1 n2 n3 n4 n5 n6 n7 n8 n9 n10 n11 CloseParen = not_word text (codes "") 41 w refl
word_free text w n0 n1 n2 n3 n4 n5 n6 n7 n8 n9 n10 n11 OpenBrace = not_word text (codes "") 123 w refl
word_free text w n0 n1 n2 n3 n4 n5 n6 n7 n8 n9 n10 n11 CloseBrace = not_word text (codes "") 125 w refl
word_free text w n0 n1 n2 n3 n4 n5 n6 n7 n8 n9 n10 n11 Semicolon = not_word text (codes "") 59 w refl

-- A text is of this kind, and goes on with name bytes.
record IsWordOf (text : List ℕ) (kind : TokenKind) : Type 0 where
  spelled : IsSpelled kind text
  carries : (b : ℕ) → carries_on kind b ≡ is_name_byte b

word_is : (text : List ℕ) → IsWord text → IsWordOf text (word_kind text)
word_is text w = found_is (IsWordOf text) (λ (k : TokenKind). k) Name reserved text
    (λ e. record { spelled = e; carries = λ b. refl }, λ n0. (λ e. record { spelled = e; carries = λ b. refl }, λ n1. (λ e. record { spelled = e; carries = λ b. refl }, λ n2. (λ e. record { spelled = e; carries = λ b. refl }, λ n3. (λ e. record { spelled = e; carries = λ b. refl }, λ n4. (λ e. record { spelled = e; carries = λ b. refl }, λ n5. (λ e. record { spelled = e; carries = λ b. refl }, λ n6. (λ e. record { spelled = e; carries = λ b. refl }, λ n7. (λ e. record { spelled = e; carries = λ b. refl }, λ n8. (λ e. record { spelled = e; carries = λ b. refl }, λ n9. (λ e. record { spelled = e; carries = λ b. refl }, λ n10. (λ e. record { spelled = e; carries = λ b. refl }, λ n11. record { spelled = record { word = w; free = word_free text w n0 n1 n2 n3 n4 n5 n6 n7 n8 n9 n10 n11 }; carries = λ b. refl }))))))))))))

word_name : (text : List ℕ) → ((kind : TokenKind) → text ≢ spelling kind) → word_kind text ≡ Name
word_name text free = found_is (λ k. k ≡ Name) (λ (k : TokenKind). k) Name reserved text
    (λ e. absurd (free Global e), λ _. (λ e. absurd (free Local e), λ _. (λ e. absurd (free Init e), λ _. (λ e. absurd (free Thread e), λ _. (λ e. absurd (free Havoc e), λ _. (λ e. absurd (free Assume e), λ _. (λ e. absurd (free Assert e), λ _. (λ e. absurd (free Skip e), λ _. (λ e. absurd (free Atomic e), λ _. (λ e. absurd (free If e), λ _. (λ e. absurd (free Else e), λ _. (λ e. absurd (free While e), λ _. refl))))))))))))

-- A word of no reserved kind is a name.
pub name_from_kind : (text : List ℕ) → IsWord text → word_kind text ≡ Name → IsName text
name_from_kind text w e = (subst (IsWordOf text) e (word_is text w)).spelled

whole_stops : (kind : TokenKind) (p : ℕ → Bool) (after : List ℕ) → ((b : ℕ) → carries_on kind b ≡ p b) → IsWhole kind after → StopsBy p after
whole_stops kind p [] h w = tt
whole_stops kind p (b ∷ bs) h w = sym (h b) ∙ w

stops_whole : (kind : TokenKind) (p : ℕ → Bool) (after : List ℕ) → ((b : ℕ) → carries_on kind b ≡ p b) → StopsBy p after → IsWhole kind after
stops_whole kind p [] h s = tt
stops_whole kind p (b ∷ bs) h s = h b ∙ s

-- ---- what is found is a token

-- A token stands at the front of the text, with so many bytes.
pub record IsAhead (bytes : List ℕ) (kind : TokenKind) (len : ℕ) : Type 0 where
  pub token : IsToken kind (take len bytes) (drop len bytes)
  pub some : 0 < len
  pub within : len ≤ length bytes

abbrev pub Ahead : List ℕ → Option (TokenKind × ℕ) → Type 0
Ahead bytes None = Unit {0}
Ahead bytes (Some p) = IsAhead bytes p.0 p.1

run_some : (p : ℕ → Bool) (bytes : List ℕ) → p (slice_index bytes 0) ≡ true → p 0 ≡ false → 0 < prefix_len p bytes
run_some p [] h zero_fails = cc
run_some p (b ∷ bs) h zero_fails = rw h (omega arith)

word_front : (bytes : List ℕ) → is_letter (slice_index bytes 0) ≡ true → IsWord (take (prefix_len is_name_byte bytes) bytes)
word_front [] h = cc
word_front (b ∷ bs) h =
    let name : is_name_byte b ≡ true = rw h refl in
    let n : prefix_len is_name_byte (b ∷ bs) ≡ suc (prefix_len is_name_byte bs) = rw name (omega arith) in
    rw n (h, front_passes is_name_byte bs)

word_ahead : (bytes : List ℕ) → is_letter (slice_index bytes 0) ≡ true → Ahead bytes (word_token (prefix_len is_name_byte bytes) bytes)
word_ahead bytes h =
    let n = prefix_len is_name_byte bytes in
    let name : is_name_byte (slice_index bytes 0) ≡ true = rw h refl in
    let is = word_is (take n bytes) (word_front bytes h) in
    record {
      token = record { spelled = is.spelled; whole = stops_whole (word_kind (take n bytes)) is_name_byte (drop n bytes) is.carries (front_stops is_name_byte bytes) };
      some = run_some is_name_byte bytes name refl;
      within = prefix_len-le-length is_name_byte bytes;
    }

number_ahead : (bytes : List ℕ) (t : Bool) → is_digit (slice_index bytes 0) ≡ true → leb (prefix_len is_digit bytes) 18 ≡ t → Ahead bytes (cond t (Some (Number, prefix_len is_digit bytes)) None)
number_ahead bytes true h e =
    let n = prefix_len is_digit bytes in
    let positive : 0 < prefix_len is_digit bytes = run_some is_digit bytes h refl in
    let len : length (take n bytes) ≡ prefix_len is_digit bytes = length-take-le n bytes (prefix_len-le-length is_digit bytes) in
    let most : prefix_len is_digit bytes ≤ 18 = grind (arith, nat_tests) in
    record {
      token = record {
        spelled = record { digits = digits_are (take n bytes) ∙ front_passes is_digit bytes; some = omega arith; few = omega arith };
        whole = stops_whole Number is_digit (drop n bytes) (λ b. refl) (front_stops is_digit bytes);
      };
      some = positive;
      within = prefix_len-le-length is_digit bytes;
    }
number_ahead bytes false h e = tt

-- Two bytes are a sign that nothing makes longer; or none of those that begin as one of one byte does.
record IsDouble (a b : ℕ) (kind : TokenKind) : Type 0 where
  spelled : IsSpelled kind (a ∷ (b ∷ []))
  carries : (c : ℕ) → carries_on kind c ≡ false
  second : 0 < b

record NoDouble (a b : ℕ) : Type 0 where
  less : a ∷ (b ∷ []) ≢ codes "<="
  greater : a ∷ (b ∷ []) ≢ codes ">="
  not_equal : a ∷ (b ∷ []) ≢ codes "!="
  equal : a ∷ (b ∷ []) ≢ codes "=="

abbrev Double : ℕ → ℕ → Option TokenKind → Type 0
Double a b None = NoDouble a b
Double a b (Some kind) = IsDouble a b kind

second_some : (a b c d : ℕ) → a ∷ (b ∷ []) ≡ c ∷ (d ∷ []) → 0 < d → 0 < b
second_some a b c d e h = let f : b ≡ d = ap (λ (t : List ℕ). slice_index t 1) e in omega arith

double_is : (a b : ℕ) → Double a b (double_sign a b)
double_is a b = found_is (Double a b) (λ kind. Some kind) None double_signs (a ∷ (b ∷ []))
    (λ e. record { spelled = e; carries = λ c. refl; second = second_some a b 58 61 e (lit< tt) }, λ _. (λ e. record { spelled = e; carries = λ c. refl; second = second_some a b 60 61 e (lit< tt) }, λ less. (λ e. record { spelled = e; carries = λ c. refl; second = second_some a b 62 61 e (lit< tt) }, λ greater. (λ e. record { spelled = e; carries = λ c. refl; second = second_some a b 61 61 e (lit< tt) }, λ equal. (λ e. record { spelled = e; carries = λ c. refl; second = second_some a b 33 61 e (lit< tt) }, λ not_equal. (λ e. record { spelled = e; carries = λ c. refl; second = second_some a b 38 38 e (lit< tt) }, λ _. (λ e. record { spelled = e; carries = λ c. refl; second = second_some a b 124 124 e (lit< tt) }, λ _. record { less = less; greater = greater; not_equal = not_equal; equal = equal })))))))

record IsSingle (a b : ℕ) (kind : TokenKind) : Type 0 where
  spelled : IsSpelled kind (a ∷ [])
  carries : carries_on kind b ≡ false

abbrev Single : ℕ → ℕ → Option TokenKind → Type 0
Single a b None = Unit {0}
Single a b (Some kind) = IsSingle a b kind

not_next : (a b c : ℕ) (t : Bool) → a ∷ [] ≡ c ∷ [] → a ∷ (b ∷ []) ≢ c ∷ (61 ∷ []) → eqb b 61 ≡ t → eqb b 61 ≡ false
not_next a b c true e no_double h =
    let first : a ≡ c = ap (λ (t : List ℕ). slice_index t 0) e in
    let second : b ≡ 61 = eqb-true b 61 h in
    absurd (no_double (cc))
not_next a b c false e no_double h = h

single_is : (a b : ℕ) → NoDouble a b → Single a b (single_sign a)
single_is a b n = found_is (Single a b) (λ kind. Some kind) None single_signs (a ∷ [])
    (λ e. record { spelled = e; carries = not_next a b 60 (eqb b 61) e n.less refl }, λ _. (λ e. record { spelled = e; carries = not_next a b 62 (eqb b 61) e n.greater refl }, λ _. (λ e. record { spelled = e; carries = not_next a b 33 (eqb b 61) e n.not_equal refl }, λ _. (λ e. record { spelled = e; carries = not_next a b 61 (eqb b 61) e n.equal refl }, λ _. (λ e. record { spelled = e; carries = refl }, λ _. (λ e. record { spelled = e; carries = refl }, λ _. (λ e. record { spelled = e; carries = refl }, λ _. (λ e. record { spelled = e; carries = refl }, λ _. (λ e. record { spelled = e; carries = refl }, λ _. (λ e. record { spelled = e; carries = refl }, λ _. (λ e. record { spelled = e; carries = refl }, λ _. (λ e. record { spelled = e; carries = refl }, λ _. tt))))))))))))

whole_always : (kind : TokenKind) (after : List ℕ) → ((c : ℕ) → carries_on kind c ≡ false) → IsWhole kind after
whole_always kind [] h = tt
whole_always kind (b ∷ bs) h = h b

whole_before : (kind : TokenKind) (after : List ℕ) → carries_on kind (slice_index after 0) ≡ false → IsWhole kind after
whole_before kind [] h = tt
whole_before kind (b ∷ bs) h = h

single_ahead : (a : ℕ) (bs : List ℕ) (o : Option TokenKind) → Single a (slice_index bs 0) o → Ahead (a ∷ bs) (option_map (λ kind. (kind, 1)) o)
single_ahead a bs None h = tt
single_ahead a bs (Some kind) h = record {
  token = record { spelled = h.spelled; whole = whole_before kind bs h.carries };
  some = lit< tt;
  within = omega arith;
}

double_ahead : (a : ℕ) (bs : List ℕ) (o : Option TokenKind) → Double a (slice_index bs 0) o → Ahead (a ∷ bs) (elim o [ None ↦ option_map (λ kind. (kind, 1)) (single_sign a) | Some kind ↦ Some (kind, 2) ])
double_ahead a bs None h = single_ahead a bs (single_sign a) (single_is a (slice_index bs 0) h)
double_ahead a [] (Some kind) h = absurd (let h2 = h.second in omega arith)
double_ahead a (b ∷ bs) (Some kind) h = record {
  token = record { spelled = h.spelled; whole = whole_always kind bs h.carries };
  some = lit< tt;
  within = omega arith;
}

sign_ahead : (bytes : List ℕ) → Ahead bytes (sign_token (slice_index bytes 0) (slice_index bytes 1))
sign_ahead [] = tt
sign_ahead (a ∷ bs) = double_ahead a bs (double_sign a (slice_index bs 0)) (double_is a (slice_index bs 0))

ahead_by : (bytes : List ℕ) (letter digit : Bool) → is_letter (slice_index bytes 0) ≡ letter → is_digit (slice_index bytes 0) ≡ digit
    → Ahead bytes (cond letter (word_token (prefix_len is_name_byte bytes) bytes) (cond digit (number_token (prefix_len is_digit bytes)) (sign_token (slice_index bytes 0) (slice_index bytes 1))))
ahead_by bytes true digit e f = word_ahead bytes e
ahead_by bytes false true e f = number_ahead bytes (leb (prefix_len is_digit bytes) 18) f refl
ahead_by bytes false false e f = sign_ahead bytes

pub token_ahead : (bytes : List ℕ) → Ahead bytes (token_at bytes)
token_ahead bytes = ahead_by bytes (is_letter (slice_index bytes 0)) (is_digit (slice_index bytes 0)) refl refl

-- ---- any token is found

word_found : (kind : TokenKind) (text after : List ℕ) → IsWord text → word_kind text ≡ kind → StopsBy is_name_byte after → token_at (text ++ after) ≡ Some (kind, length text)
word_found kind [] after w h s = absurd w
word_found kind (b ∷ bs) after w h s =
    let n : prefix_len is_name_byte (b ∷ (bs ++ after)) ≡ length (b ∷ bs) = run_len is_name_byte (b ∷ bs) after (word_passes (b ∷ bs) w) s in
    let front : take (length (b ∷ bs)) (b ∷ (bs ++ after)) ≡ b ∷ bs = take-append_seam (b ∷ bs) after in
    let of_len : token_at (b ∷ (bs ++ after)) ≡ word_token (prefix_len is_name_byte (b ∷ (bs ++ after))) (b ∷ (bs ++ after)) = ap (λ (t : Bool). cond t (word_token (prefix_len is_name_byte (b ∷ (bs ++ after))) (b ∷ (bs ++ after))) (cond (is_digit b) (number_token (prefix_len is_digit (b ∷ (bs ++ after)))) (sign_token b (slice_index (bs ++ after) 0)))) (w.0) in
    of_len ∙ ap (λ (m : ℕ). word_token m (b ∷ (bs ++ after))) n ∙ ap (λ (t : List ℕ). Some (word_kind t, length (b ∷ bs))) front ∙ ap (λ (k : TokenKind). Some (k, length (b ∷ bs))) h

digit_no_letter : (b : ℕ) → is_digit b ≡ true → is_letter b ≡ false
digit_no_letter b h = grind (arith, nat_tests)

number_found : (text after : List ℕ) → IsNumber text → StopsBy is_digit after → token_at (text ++ after) ≡ Some (Number, length text)
number_found [] after w s = absurd (let k = w.some in omega arith)
number_found (b ∷ bs) after w s =
    let digits : list_all is_digit (b ∷ bs) ≡ true = sym (digits_are (b ∷ bs)) ∙ w.digits in
    let n : prefix_len is_digit (b ∷ (bs ++ after)) ≡ length (b ∷ bs) = run_len is_digit (b ∷ bs) after digits s in
    let d : is_digit b ≡ true = (and_parts (is_digit b) (list_all is_digit bs) digits).0 in
    let l : is_letter b ≡ false = digit_no_letter b d in
    let few : leb (length (b ∷ bs)) 18 ≡ true = (let k = w.few in grind (arith, nat_tests)) in
    let of_letter : token_at (b ∷ (bs ++ after)) ≡ cond (is_digit b) (number_token (prefix_len is_digit (b ∷ (bs ++ after)))) (sign_token b (slice_index (bs ++ after) 0)) = ap (λ (t : Bool). cond t (word_token (prefix_len is_name_byte (b ∷ (bs ++ after))) (b ∷ (bs ++ after))) (cond (is_digit b) (number_token (prefix_len is_digit (b ∷ (bs ++ after)))) (sign_token b (slice_index (bs ++ after) 0)))) l in
    of_letter ∙ ap (λ (t : Bool). cond t (number_token (prefix_len is_digit (b ∷ (bs ++ after)))) (sign_token b (slice_index (bs ++ after) 0))) d ∙ ap number_token n ∙ ap (λ (t : Bool). cond t (Some (Number, length (b ∷ bs))) None) few

less_found : (after : List ℕ) → IsWhole Less after → token_at (60 ∷ after) ≡ Some (Less, 1)
less_found [] w = refl
less_found (b ∷ bs) w = ap (λ (t : Bool). elim (cond (t && true) (Some LessEq) None) as (λ _. Option (TokenKind × ℕ)) [ None ↦ Some (Less, 1) | Some kind ↦ Some (kind, 2) ]) w

greater_found : (after : List ℕ) → IsWhole Greater after → token_at (62 ∷ after) ≡ Some (Greater, 1)
greater_found [] w = refl
greater_found (b ∷ bs) w = ap (λ (t : Bool). elim (cond (t && true) (Some GreaterEq) None) as (λ _. Option (TokenKind × ℕ)) [ None ↦ Some (Greater, 1) | Some kind ↦ Some (kind, 2) ]) w

not_found : (after : List ℕ) → IsWhole Not after → token_at (33 ∷ after) ≡ Some (Not, 1)
not_found [] w = refl
not_found (b ∷ bs) w = ap (λ (t : Bool). elim (cond (t && true) (Some NotEqual) None) as (λ _. Option (TokenKind × ℕ)) [ None ↦ Some (Not, 1) | Some kind ↦ Some (kind, 2) ]) w

equal_found : (after : List ℕ) → IsWhole Equal after → token_at (61 ∷ after) ≡ Some (Equal, 1)
equal_found [] w = refl
equal_found (b ∷ bs) w = ap (λ (t : Bool). elim (cond (t && true) (Some EqualEqual) None) as (λ _. Option (TokenKind × ℕ)) [ None ↦ Some (Equal, 1) | Some kind ↦ Some (kind, 2) ]) w

pub token_found : (kind : TokenKind) (text after : List ℕ) → IsSpelled kind text → IsWhole kind after → token_at (text ++ after) ≡ Some (kind, length text)
token_found Name text after h w = word_found Name text after h.word (word_name text h.free) (whole_stops Name is_name_byte after (λ b. refl) w)
token_found Number text after h w = number_found text after h (whole_stops Number is_digit after (λ b. refl) w)
token_found Global text after h w = rw h (word_found Global (spelling Global) after (refl, refl) refl (whole_stops Global is_name_byte after (λ b. refl) w))
token_found Local text after h w = rw h (word_found Local (spelling Local) after (refl, refl) refl (whole_stops Local is_name_byte after (λ b. refl) w))
token_found Init text after h w = rw h (word_found Init (spelling Init) after (refl, refl) refl (whole_stops Init is_name_byte after (λ b. refl) w))
token_found Thread text after h w = rw h (word_found Thread (spelling Thread) after (refl, refl) refl (whole_stops Thread is_name_byte after (λ b. refl) w))
token_found Havoc text after h w = rw h (word_found Havoc (spelling Havoc) after (refl, refl) refl (whole_stops Havoc is_name_byte after (λ b. refl) w))
token_found Assume text after h w = rw h (word_found Assume (spelling Assume) after (refl, refl) refl (whole_stops Assume is_name_byte after (λ b. refl) w))
token_found Assert text after h w = rw h (word_found Assert (spelling Assert) after (refl, refl) refl (whole_stops Assert is_name_byte after (λ b. refl) w))
token_found Skip text after h w = rw h (word_found Skip (spelling Skip) after (refl, refl) refl (whole_stops Skip is_name_byte after (λ b. refl) w))
token_found Atomic text after h w = rw h (word_found Atomic (spelling Atomic) after (refl, refl) refl (whole_stops Atomic is_name_byte after (λ b. refl) w))
token_found If text after h w = rw h (word_found If (spelling If) after (refl, refl) refl (whole_stops If is_name_byte after (λ b. refl) w))
token_found Else text after h w = rw h (word_found Else (spelling Else) after (refl, refl) refl (whole_stops Else is_name_byte after (λ b. refl) w))
token_found While text after h w = rw h (word_found While (spelling While) after (refl, refl) refl (whole_stops While is_name_byte after (λ b. refl) w))
token_found Becomes text after h w = rw h refl
token_found LessEq text after h w = rw h refl
token_found GreaterEq text after h w = rw h refl
token_found EqualEqual text after h w = rw h refl
token_found NotEqual text after h w = rw h refl
token_found And text after h w = rw h refl
token_found Or text after h w = rw h refl
token_found Less text after h w = rw h (less_found after w)
token_found Greater text after h w = rw h (greater_found after w)
token_found Not text after h w = rw h (not_found after w)
token_found Equal text after h w = rw h (equal_found after w)
token_found Plus text after h w = rw h refl
token_found Minus text after h w = rw h refl
token_found Star text after h w = rw h refl
token_found OpenParen text after h w = rw h refl
token_found CloseParen text after h w = rw h refl
token_found OpenBrace text after h w = rw h refl
token_found CloseBrace text after h w = rw h refl
token_found Semicolon text after h w = rw h refl
