-- The two laws of proofs: what is read is spelled so, and what is spelled so is read.
use Rattle.std.proofs.Common.{◌≡◌, ℕ, ◌^◌, ◌<◌, ◌≤◌, List, [], ◌∷◌, ◌++◌, length, refl, sym, ap, subst, ◌∙◌, arith}
use Rattle.std.specs.Prelude.{codes}
use Rattle.std.specs.List.{flat_map, AllByRecursion}
use Rattle.ps_atom.specs.declared.predicate.Predicate.{Predicate}
use Rattle.ps_atom_text.specs.Reading.{config_at, entry_at, predicate_at}
use Rattle.ps_atom_text.specs.Spelling.{config_line, entry_line, predicate_line, ConfigHasSpelling, EntryHasSpelling, PredicateHasSpelling}
use Rattle.ps_atom_text.proofs.Configs.{config_exact}
use Rattle.ps_atom_text.proofs.Entries.{entry_exact, predicate_exact}
use Rattle.ps_atom_text.proofs.Fields.{found_as, gets_as}
use Rattle.ps_config.specs.Configurations.{Configuration}
use Rattle.ps_file.specs.declared.limits.TheConstants.{MOST_CONFIGS, MOST_ENTRIES, MOST_PREDICATES}
use Rattle.ps_file.specs.declared.proof.Proof.{Proof}
use Rattle.ps_file.specs.Reading.{listed_at, proof_at, version_at}
use Rattle.ps_file.specs.Spelling.{listed, proof_lines, ProofFits}
use Rattle.ps_lines.specs.Reading.{Position, Read, end_at, times_at}
use Rattle.ps_lines.specs.Tokens.{LinePart, Field, Newline, parts_of_line, parts_of_text}
use Rattle.ps_lines.proofs.Bytes.{AreClean, IsClean, IsClean-append, IsPlain, plain_word, spread_mapped}
use Rattle.ps_lines.proofs.Exact.{Always, Exact, Finds, Gets, end_exact, ended-append, found_bind, found_end, gets_bind, gets_end, line_exact, word_exact}
use Rattle.ps_lines.proofs.Forms.{IsFormat, done_again, done_found, header_exact, header_tokens, only_exact, times_exact}
use Rattle.ps_triple.specs.declared.entry.Entry.{Entry}

-- ---- the version

proof_plain : IsPlain (codes "proof")
proof_plain = plain_word (codes "proof") refl

one_plain : IsPlain (codes "1")
one_plain = plain_word (codes "1") refl

abbrev version_tokens : List LinePart
version_tokens = Field (codes "proof") ∷ (Field (codes "1") ∷ (Newline ∷ []))

version_found : (at : Position) → Finds (version_at at) (λ y. at.tokens ≡ version_tokens ++ y.1.tokens)
unfolding version_at
version_found at =
    found_bind _ _ _ _ ((line_exact (codes "proof") proof_plain).found at) (λ w p.
    found_bind _ _ _ _ ((word_exact (codes "1") one_plain).found w.1) (λ v q.
    found_as (end_at v.1) _ _ (end_exact.found v.1) (λ e r.
    p.0 ∙ ap (λ (ts : List LinePart). Field (codes "proof") ∷ ts) (q.0 ∙ ap (λ (ts : List LinePart). Field (codes "1") ∷ ts) r.0))))

version_again : (at : Position) (rest : List LinePart) → at.tokens ≡ version_tokens ++ rest → Gets (version_at at) (λ y. y.1.tokens ≡ rest)
unfolding version_at
version_again at rest e =
    gets_bind _ _ _ _ ((line_exact (codes "proof") proof_plain).again at tt (Field (codes "1") ∷ Newline ∷ rest) tt e (ended-append (Field (codes "1") ∷ []) rest)) (λ w p.
    gets_bind _ _ _ _ ((word_exact (codes "1") one_plain).again w.1 tt (Newline ∷ rest) tt p.1 tt) (λ v q.
    gets_as (end_at v.1) _ _ (end_exact.again v.1 tt rest tt q.1 tt) (λ e' r. r.1)))

-- ---- a list with its count

abbrev list_tokens : {A : Type 0} → List ℕ → (A → List LinePart) → List A → List LinePart
list_tokens word spell xs = header_tokens word (length xs) ++ flat_map spell xs

pub record ListFits {A : Type 0} (limit : ℕ) (fits : A → Type 0) (xs : List A) : Type 0 where
  pub few : length xs ≤ limit
  pub all : AllByRecursion fits xs

listed_found : {A : Type 0} (word : List ℕ) (limit : ℕ) (read : Read A) (spell : A → List LinePart) (fits : A → Type 0) → IsPlain word → limit < 2 ^ 32 → Exact read spell fits Always → (at : Position) →
    Finds (listed_at word limit read at) (λ y. (at.tokens ≡ list_tokens word spell y.0 ++ y.1.tokens) × ListFits limit fits y.0)
unfolding listed_at
listed_found {A = A} word limit read spell fits plain small exact at =
    found_bind _ _ _ _ ((header_exact word limit plain small).found at) (λ n p.
    found_as (times_at read n.0 n.1) _ _ ((times_exact read spell fits exact n.0).found n.1) (λ y q. (
      p.0 ∙ ap (λ (ts : List LinePart). header_tokens word n.0 ++ ts) q.0 ∙ ap (λ (k : ℕ). header_tokens word k ++ (flat_map spell y.0 ++ y.1.tokens)) (sym q.1.0),
      record { few = omega (arith, q.1.0, p.1); all = q.1.1 },
    )))

listed_again : {A : Type 0} (word : List ℕ) (limit : ℕ) (read : Read A) (spell : A → List LinePart) (fits : A → Type 0) → IsPlain word → limit < 2 ^ 32 → Exact read spell fits Always → (at : Position) (xs : List A) (rest : List LinePart) →
    ListFits limit fits xs → at.tokens ≡ list_tokens word spell xs ++ rest → Unit {0} → Gets (listed_at word limit read at) (λ y. (y.0 ≡ xs) × (y.1.tokens ≡ rest))
unfolding listed_at
listed_again word limit read spell fits plain small exact at xs rest fit e h =
    gets_bind _ _ _ _ ((header_exact word limit plain small).again at (length xs) (flat_map spell xs ++ rest) fit.few e tt) (λ n p.
    (times_exact read spell fits exact n.0).again n.1 xs rest (sym p.0, fit.all) p.1 tt)

listed_clean : {A : Type 0} (word : List ℕ) (limit : ℕ) (read : Read A) (spell : A → List LinePart) (fits : A → Type 0) → IsPlain word → limit < 2 ^ 32 → Exact read spell fits Always → (xs : List A) → ListFits limit fits xs → IsClean (list_tokens word spell xs)
listed_clean word limit read spell fits plain small exact xs fit =
    IsClean-append (header_tokens word (length xs)) (flat_map spell xs) ((header_exact word limit plain small).clean (length xs) fit.few) ((times_exact read spell fits exact (length xs)).clean xs (refl, fit.all))

listed_exact : {A : Type 0} (word : List ℕ) (limit : ℕ) (read : Read A) (spell : A → List LinePart) (fits : A → Type 0) → IsPlain word → limit < 2 ^ 32 → Exact read spell fits Always → Exact (listed_at word limit read) (list_tokens word spell) (ListFits limit fits) Always
listed_exact word limit read spell fits plain small exact = record {
  found = listed_found word limit read spell fits plain small exact;
  again = listed_again word limit read spell fits plain small exact;
  clean = listed_clean word limit read spell fits plain small exact;
}

-- the tokens of such a list, with further lines after it
listed_then : {A : Type 0} (word : List ℕ) (line : A → List ℕ × List (List ℕ)) (xs : List A) (more : List (List ℕ × List (List ℕ))) → parts_of_text (listed word line xs ++ more) ≡ list_tokens word (λ x. parts_of_line (line x)) xs ++ parts_of_text more
listed_then word line xs more = ap (λ (ts : List LinePart). header_tokens word (length xs) ++ ts) (spread_mapped parts_of_line line xs more)

-- ---- the three lists

preds_plain : IsPlain (codes "preds")
preds_plain = plain_word (codes "preds") refl

entries_plain : IsPlain (codes "entries")
entries_plain = plain_word (codes "entries") refl

configs_plain : IsPlain (codes "configs")
configs_plain = plain_word (codes "configs") refl

end_plain : IsPlain (codes "end")
end_plain = plain_word (codes "end") refl

abbrev predicate_tokens : List Predicate → List LinePart
predicate_tokens = list_tokens (codes "preds") (λ p. parts_of_line (predicate_line p))

abbrev entry_tokens : List Entry → List LinePart
entry_tokens = list_tokens (codes "entries") (λ x. parts_of_line (entry_line x))

abbrev config_tokens : List Configuration → List LinePart
config_tokens = list_tokens (codes "configs") (λ c. parts_of_line (config_line c))

predicates_exact : Exact (listed_at (codes "preds") MOST_PREDICATES predicate_at) predicate_tokens (ListFits MOST_PREDICATES PredicateHasSpelling) Always
predicates_exact = listed_exact (codes "preds") MOST_PREDICATES predicate_at (λ p. parts_of_line (predicate_line p)) PredicateHasSpelling preds_plain (omega arith) predicate_exact

entries_exact : Exact (listed_at (codes "entries") MOST_ENTRIES entry_at) entry_tokens (ListFits MOST_ENTRIES EntryHasSpelling) Always
entries_exact = listed_exact (codes "entries") MOST_ENTRIES entry_at (λ x. parts_of_line (entry_line x)) EntryHasSpelling entries_plain (omega arith) entry_exact

configs_exact : Exact (listed_at (codes "configs") MOST_CONFIGS config_at) config_tokens (ListFits MOST_CONFIGS ConfigHasSpelling) Always
configs_exact = listed_exact (codes "configs") MOST_CONFIGS config_at (λ c. parts_of_line (config_line c)) ConfigHasSpelling configs_plain (omega arith) config_exact

-- ---- the whole text

abbrev end_tokens : List LinePart
end_tokens = Field (codes "end") ∷ (Newline ∷ [])

abbrev last_tokens : List Configuration → List LinePart
last_tokens cs = config_tokens cs ++ end_tokens

abbrev later_tokens : List Entry → List Configuration → List LinePart
later_tokens xs cs = entry_tokens xs ++ last_tokens cs

abbrev all_tokens : List Predicate → List Entry → List Configuration → List LinePart
all_tokens ps xs cs = version_tokens ++ (predicate_tokens ps ++ later_tokens xs cs)

proof_tokens : (p : Proof) → parts_of_text (proof_lines p) ≡ all_tokens p.predicates p.entries p.configs
proof_tokens p =
    let end : List (List ℕ × List (List ℕ)) = (codes "end", []) ∷ [] in
    let configs : List (List ℕ × List (List ℕ)) = listed (codes "configs") config_line p.configs ++ end in
    let entries : List (List ℕ × List (List ℕ)) = listed (codes "entries") entry_line p.entries ++ configs in
    ap (λ (ts : List LinePart). version_tokens ++ ts) (listed_then (codes "preds") predicate_line p.predicates entries)
    ∙ ap (λ (ts : List LinePart). version_tokens ++ (predicate_tokens p.predicates ++ ts)) (listed_then (codes "entries") entry_line p.entries configs)
    ∙ ap (λ (ts : List LinePart). version_tokens ++ (predicate_tokens p.predicates ++ (entry_tokens p.entries ++ ts))) (listed_then (codes "configs") config_line p.configs end)

abbrev make : List Predicate → List Entry → List Configuration → Proof
make ps xs cs = record { predicates = ps; entries = xs; configs = cs }

proof_found : (at : Position) → Finds (proof_at at) (λ p. (at.tokens ≡ parts_of_text (proof_lines p)) × ProofFits p)
unfolding proof_at
proof_found at =
    found_bind _ _ _ _ (version_found at) (λ v o.
    found_bind _ _ _ _ (predicates_exact.found v.1) (λ ps p.
    found_bind _ _ _ _ (entries_exact.found ps.1) (λ xs q.
    found_bind _ _ _ _ (configs_exact.found xs.1) (λ cs r.
    found_bind _ _ _ _ ((only_exact (codes "end") end_plain).found cs.1) (λ e s.
    found_bind _ _ _ _ (done_found e.1) (λ d t.
    let last : xs.1.tokens ≡ last_tokens cs.0 = r.0 ∙ ap (λ (ts : List LinePart). config_tokens cs.0 ++ ts) (s.0 ∙ ap (λ (ts : List LinePart). end_tokens ++ ts) t) in
    let all : at.tokens ≡ all_tokens ps.0 xs.0 cs.0 =
    o ∙ ap (λ (ts : List LinePart). version_tokens ++ ts) (p.0 ∙ ap (λ (ts : List LinePart). predicate_tokens ps.0 ++ ts) (q.0 ∙ ap (λ (ts : List LinePart). entry_tokens xs.0 ++ ts) last)) in
    found_end _ _ (
      all ∙ sym (proof_tokens (make ps.0 xs.0 cs.0)),
      record { few_predicates = p.1.few; few_entries = q.1.few; few_configs = r.1.few; predicates = p.1.all; entries = q.1.all; configs = r.1.all },
    )))))))

proof_again : (at : Position) (p : Proof) → ProofFits p → at.tokens ≡ parts_of_text (proof_lines p) → Gets (proof_at at) (λ q. q ≡ p)
unfolding proof_at
proof_again at p fit e =
    gets_bind _ _ _ _ (version_again at (predicate_tokens p.predicates ++ later_tokens p.entries p.configs) (e ∙ proof_tokens p)) (λ v o.
    gets_bind _ _ _ _ (predicates_exact.again v.1 p.predicates (later_tokens p.entries p.configs) (record { few = fit.few_predicates; all = fit.predicates }) o tt) (λ ps q.
    gets_bind _ _ _ _ (entries_exact.again ps.1 p.entries (last_tokens p.configs) (record { few = fit.few_entries; all = fit.entries }) q.1 tt) (λ xs r.
    gets_bind _ _ _ _ (configs_exact.again xs.1 p.configs end_tokens (record { few = fit.few_configs; all = fit.configs }) r.1 tt) (λ cs s.
    gets_bind _ _ _ _ ((only_exact (codes "end") end_plain).again cs.1 tt [] tt s.1 tt) (λ e' t.
    gets_bind _ _ (λ _. Unit {0}) _ (record { value = tt; ok = done_again e'.1 t.1; is = tt }) (λ d u.
    gets_end _ _ (ap (λ (l : List Predicate). make l xs.0 cs.0) q.0 ∙ ap (λ (l : List Entry). make p.predicates l cs.0) r.0 ∙ ap (make p.predicates p.entries) s.0)))))))

proof_clean : (p : Proof) → ProofFits p → AreClean (proof_lines p)
proof_clean p fit =
    let last : IsClean (last_tokens p.configs) = IsClean-append (config_tokens p.configs) end_tokens (configs_exact.clean p.configs (record { few = fit.few_configs; all = fit.configs })) (end_plain, tt) in
    let later : IsClean (later_tokens p.entries p.configs) = IsClean-append (entry_tokens p.entries) (last_tokens p.configs) (entries_exact.clean p.entries (record { few = fit.few_entries; all = fit.entries })) last in
    let lists : IsClean (predicate_tokens p.predicates ++ later_tokens p.entries p.configs) =
    IsClean-append (predicate_tokens p.predicates) (later_tokens p.entries p.configs) (predicates_exact.clean p.predicates (record { few = fit.few_predicates; all = fit.predicates })) later in
    subst IsClean (sym (proof_tokens p)) (proof_plain, (one_plain, lists))

pub proof_is_format : IsFormat proof_at proof_lines ProofFits
proof_is_format = record { found = proof_found; again = proof_again; clean = proof_clean }
