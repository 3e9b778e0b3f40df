-- Lines that are put in pieces.
use Rattle.std.proofs.Common.{◌≡◌, ℕ, List, [], ◌∷◌, ◌++◌, map, refl, sym, ap, ◌∙◌, append_assoc}
use Rattle.std.specs.Prelude.{decimal}
use Rattle.std.specs.List.{flat_map}
use Rattle.std.proofs.lemmas.Grind.{flat_map-append}
use Rattle.std.proofs.lemmas.List.{append-nil}
use Rattle.ps_atom.specs.declared.atom.Atom.{Atom}
use Rattle.ps_atom_text.specs.Spelling.{atom_text, lambda_fields, place_text}
use Rattle.ps_lines.specs.Tokens.{after_blank, line_bytes}
use Rattle.ps_lines.proofs.Bytes.{flat_map-map}
use Rattle.std.specs.Prelude.{codes}

-- these fields were put after what stood before
abbrev pub Put : List ℕ → List (List ℕ) → List ℕ → Type 0
Put base fs done = done ≡ base ++ flat_map after_blank fs

pub put_none : (base done : List ℕ) → done ≡ base → Put base [] done
put_none base done e = e ∙ sym (append-nil base)

pub put_more : (base done new : List ℕ) (fs gs : List (List ℕ)) → Put base fs done → new ≡ done ++ flat_map after_blank gs → Put base (fs ++ gs) new
put_more base done new fs gs put e =
    e ∙ ap (λ (m : List ℕ). m ++ flat_map after_blank gs) put
    ∙ append_assoc base (flat_map after_blank fs) (flat_map after_blank gs)
    ∙ ap (λ (m : List ℕ). base ++ m) (sym (flat_map-append after_blank fs gs))

pub put_one : (base done new : List ℕ) (fs : List (List ℕ)) (f : List ℕ) → Put base fs done → new ≡ done ++ after_blank f → Put base (fs ++ f ∷ []) new
put_one base done new fs f put e = put_more base done new fs (f ∷ []) put (e ∙ ap (λ (m : List ℕ). done ++ m) (sym (append-nil (after_blank f))))

-- the members of a list
pub put_all : {A : Type 0} (text : A → List ℕ) (base done new : List ℕ) (fs : List (List ℕ)) (xs : List A) → Put base fs done → new ≡ done ++ flat_map (λ x. after_blank (text x)) xs → Put base (fs ++ map text xs) new
put_all text base done new fs xs put e = put_more base done new fs (map text xs) put (e ∙ ap (λ (m : List ℕ). done ++ m) (sym (flat_map-map after_blank text xs)))

pub line_ended : (out word done : List ℕ) (fs : List (List ℕ)) → Put (out ++ word) fs done → done ++ 10 ∷ [] ≡ out ++ line_bytes (word, fs)
line_ended out word done fs put =
    ap (λ (m : List ℕ). m ++ 10 ∷ []) put
    ∙ append_assoc (out ++ word) (flat_map after_blank fs) (10 ∷ [])
    ∙ append_assoc out word (flat_map after_blank fs ++ 10 ∷ [])

-- `by` before the multipliers
pub lambda_begun : (out done : List ℕ) (ns : List ℕ) → done ≡ out ++ after_blank (codes "by") → done ++ flat_map (λ n. after_blank (decimal n)) ns ≡ out ++ flat_map after_blank (lambda_fields ns)
lambda_begun out done ns e =
    ap (λ (m : List ℕ). m ++ flat_map (λ n. after_blank (decimal n)) ns) e
    ∙ append_assoc out (after_blank (codes "by")) (flat_map (λ n. after_blank (decimal n)) ns)
    ∙ ap (λ (m : List ℕ). out ++ (after_blank (codes "by") ++ m)) (sym (flat_map-map after_blank decimal ns))

-- the fields of a configuration
pub config_put : (base a b c : List ℕ) (first mid : List ℕ) (pslice ps : List (ℕ × ℕ)) (qslice qs : List Atom) → a ≡ base ++ after_blank first → b ≡ a ++ flat_map (λ p. after_blank (place_text p)) pslice → pslice ≡ ps → c ≡ b ++ after_blank mid → qslice ≡ qs →
    c ++ flat_map (λ q. after_blank (atom_text q)) qslice ≡ base ++ flat_map after_blank (first ∷ (map place_text ps ++ mid ∷ map atom_text qs))
config_put base a b c first mid pslice ps qslice qs pa pb same pc also =
    let one : Put base (first ∷ []) a = put_one base base a [] first (put_none base base refl) pa in
    let two : Put base (first ∷ map place_text pslice) b = put_all place_text base a b (first ∷ []) pslice one pb in
    let three : Put base (first ∷ (map place_text pslice ++ mid ∷ [])) c = put_one base b c (first ∷ map place_text pslice) mid two pc in
    put_all atom_text base c (c ++ flat_map (λ q. after_blank (atom_text q)) qslice) (first ∷ (map place_text pslice ++ mid ∷ [])) qslice three refl
    ∙ ap (λ (fs : List (List ℕ)). base ++ flat_map after_blank (first ∷ fs)) (append_assoc (map place_text pslice) (mid ∷ []) (map atom_text qslice))
    ∙ ap (λ (rs : List (ℕ × ℕ)). base ++ flat_map after_blank (first ∷ (map place_text rs ++ mid ∷ map atom_text qslice))) same
    ∙ ap (λ (rs : List Atom). base ++ flat_map after_blank (first ∷ (map place_text ps ++ mid ∷ map atom_text rs))) also

-- the line of a triple
pub triple_put : (out word a b c d e f g : List ℕ) (command second post fourth : List ℕ) (slice qs : List Atom) (lslice ls : List ℕ) → a ≡ out ++ word → b ≡ a ++ after_blank command → c ≡ b ++ after_blank second → d ≡ c ++ after_blank post → e ≡ d ++ after_blank fourth →
    f ≡ e ++ flat_map (λ q. after_blank (atom_text q)) slice → slice ≡ qs → g ≡ f ++ flat_map after_blank (lambda_fields lslice) → lslice ≡ ls →
    g ++ 10 ∷ [] ≡ out ++ line_bytes (word, command ∷ second ∷ post ∷ fourth ∷ (map atom_text qs ++ lambda_fields ls))
triple_put out word a b c d e f g command second post fourth slice qs lslice ls pa pb pc pd pe pf same pg also =
    let base : List ℕ = out ++ word in
    let one : Put base (command ∷ []) b = put_one base a b [] command (put_none base a pa) pb in
    let two : Put base (command ∷ second ∷ []) c = put_one base b c (command ∷ []) second one pc in
    let three : Put base (command ∷ second ∷ post ∷ []) d = put_one base c d (command ∷ second ∷ []) post two pd in
    let four : Put base (command ∷ second ∷ post ∷ fourth ∷ []) e = put_one base d e (command ∷ second ∷ post ∷ []) fourth three pe in
    let five : Put base (command ∷ second ∷ post ∷ fourth ∷ map atom_text slice) f = put_all atom_text base e f (command ∷ second ∷ post ∷ fourth ∷ []) slice four pf in
    let six : Put base (command ∷ second ∷ post ∷ fourth ∷ (map atom_text slice ++ lambda_fields lslice)) g = put_more base f g (command ∷ second ∷ post ∷ fourth ∷ map atom_text slice) (lambda_fields lslice) five pg in
    line_ended out word g (command ∷ second ∷ post ∷ fourth ∷ (map atom_text slice ++ lambda_fields lslice)) six
    ∙ ap (λ (rs : List Atom). out ++ line_bytes (word, command ∷ second ∷ post ∷ fourth ∷ (map atom_text rs ++ lambda_fields lslice))) same
    ∙ ap (λ (ms : List ℕ). out ++ line_bytes (word, command ∷ second ∷ post ∷ fourth ∷ (map atom_text qs ++ lambda_fields ms))) also

-- the line of an initial entry
pub initial_put : (out word a b g : List ℕ) (predicate : List ℕ) (lslice ls : List ℕ) → a ≡ out ++ word → b ≡ a ++ after_blank predicate → g ≡ b ++ flat_map after_blank (lambda_fields lslice) → lslice ≡ ls → g ++ 10 ∷ [] ≡ out ++ line_bytes (word, predicate ∷ lambda_fields ls)
initial_put out word a b g predicate lslice ls pa pb pg also =
    let base : List ℕ = out ++ word in
    let one : Put base (predicate ∷ []) b = put_one base a b [] predicate (put_none base a pa) pb in
    let two : Put base (predicate ∷ lambda_fields lslice) g = put_more base b g (predicate ∷ []) (lambda_fields lslice) one pg in
    line_ended out word g (predicate ∷ lambda_fields lslice) two ∙ ap (λ (ms : List ℕ). out ++ line_bytes (word, predicate ∷ lambda_fields ms)) also

-- a line of a word and fields that were put together
pub fields_put : (out word a g : List ℕ) (fs : List (List ℕ)) → a ≡ out ++ word → g ≡ a ++ flat_map after_blank fs → g ++ 10 ∷ [] ≡ out ++ line_bytes (word, fs)
fields_put out word a g fs pa pg = line_ended out word g fs (pg ∙ ap (λ (m : List ℕ). m ++ flat_map after_blank fs) pa)
