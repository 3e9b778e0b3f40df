-- What a text spells of a format is the one value that is read from it.
use Rattle.std.proofs.Common.{◌≡◌, ℕ, List, Result, Ok, Err, ap, sym, ◌∙◌}
use Rattle.ps_lines.proofs.Bytes.{text_read}
use Rattle.ps_lines.proofs.Forms.{IsFormat}
use Rattle.ps_lines.specs.Reading.{Position, text_start}
use Rattle.ps_lines.specs.Tokens.{line_parts, text_bytes}
use Rattle.ps_lines.specs.declared.form_fault.FormFault.{FormFault}

abbrev good : {A : Type 0} → A → Result A FormFault
good v = Ok v

-- what is spelled is read
pub spelled_reads : {A : Type 0} {read : Position → Result A FormFault} {lines : A → List (List ℕ × List (List ℕ))} {Fits : A → Type 0} → IsFormat read lines Fits
    → (text : List ℕ) (line : ℕ) (v : A) → Fits v → text ≡ text_bytes (lines v) → read (text_start line text) ≡ Ok v
spelled_reads {lines = lines} form text line v fits spelled =
    let g = form.again (text_start line text) v fits (ap line_parts spelled ∙ text_read (lines v) (form.clean v fits)) in
    g.ok ∙ ap good g.is

good_is : {A : Type 0} (v w : A) → good v ≡ good w → v ≡ w
good_is v w e = cc

-- so it is one value,
pub one_spelled : {A : Type 0} {read : Position → Result A FormFault} {lines : A → List (List ℕ × List (List ℕ))} {Fits : A → Type 0} → IsFormat read lines Fits
    → (text : List ℕ) (v w : A) → Fits v → text ≡ text_bytes (lines v) → Fits w → text ≡ text_bytes (lines w) → v ≡ w
one_spelled form text v w fits spelled too also =
    good_is v w (sym (spelled_reads form text 1 v fits spelled) ∙ spelled_reads form text 1 w too also)

-- and no fault is met;
pub no_fault_where_spelled : {A : Type 0} {read : Position → Result A FormFault} {lines : A → List (List ℕ × List (List ℕ))} {Fits : A → Type 0} → IsFormat read lines Fits
    → (text : List ℕ) (line : ℕ) (v : A) (fault : FormFault) → Fits v → text ≡ text_bytes (lines v) → read (text_start line text) ≡ Err fault → ⊥
no_fault_where_spelled form text line v fault fits spelled first = let reads = spelled_reads form text line v fits spelled in absurd (cc)

-- and of faults one is met
pub one_fault : {A : Type 0} (r : Result A FormFault) (one other : FormFault) → r ≡ Err one → r ≡ Err other → one ≡ other
one_fault r one other a b = cc
