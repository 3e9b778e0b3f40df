-- Entries are looked up by their keys.
use Rattle.std.proofs.Common.{◌≡◌, refl, sym, ap, ◌∙◌, subst, Bool, true, false, ◌||◌, if◌then◌else◌, List, [], ◌∷◌, ◌++◌, map, ◌⊎◌, inl, inr, Contains}
use Rattle.std.specs.List.{list_any}
use Rattle.std.proofs.lemmas.Bool.{true≢false}
use Rattle.std.proofs.lemmas.List.{map-append}
use Rattle.indexmap.specs.IndexSet.{insert_key}
use Rattle.ps_list.proofs.Members.{nothing, cons_cases, here, there}
use Rattle.ps_interp.specs.declared.entry_key.EntryKey.{EntryKey}
use Rattle.ps_interp.specs.inner.KeyLaws.{key_decides}
use Rattle.ps_interp.specs.inner.Keys.{entry_of, key_eq, key_of}
use Rattle.ps_interp.specs.inner.Meetings.{IsListed}
use Rattle.ps_triple.specs.declared.entry.Entry.{Entry}
use Rattle.ps_interp.proofs.Threefold.{listed_new, listed_there}

found : (k : EntryKey) (ks : List EntryKey) → list_any (key_eq k) ks ≡ true → Contains (map entry_of ks) k.entry
found k [] h = cc
found k (x ∷ xs) h = at (found k xs) (key_eq k x) refl h
  where
    at : (list_any (key_eq k) xs ≡ true → Contains (map entry_of xs) k.entry) → (b : Bool) → key_eq k x ≡ b → (b || list_any (key_eq k) xs) ≡ true → Contains (x.entry ∷ map entry_of xs) k.entry
    at rest true is h = subst (λ (e : Entry). Contains (x.entry ∷ map entry_of xs) e) (ap entry_of (sym ((key_decides k x).0 is))) (here x.entry (map entry_of xs))
    at rest false is h = there x.entry (map entry_of xs) k.entry (rest h)

not_found : (k : EntryKey) (ks : List EntryKey) → list_any (key_eq k) ks ≡ false → ¬ Contains (map entry_of ks) k.entry
not_found k [] h c = nothing k.entry c
not_found k (x ∷ xs) h c = at (not_found k xs) (key_eq k x) refl h (cons_cases x.entry (map entry_of xs) k.entry c)
  where
    at : (list_any (key_eq k) xs ≡ false → ¬ Contains (map entry_of xs) k.entry) → (b : Bool) → key_eq k x ≡ b → (b || list_any (key_eq k) xs) ≡ false → (x.entry ≡ k.entry) ⊎ Contains (map entry_of xs) k.entry → ⊥
    at rest true is h e = true≢false h
    at rest false is h (inl e) = true≢false (sym ((key_decides k x).1 (ap key_of (sym e))) ∙ is)
    at rest false is h (inr later) = rest h later

-- the list after one look-up
pub listed_by : (old new : List EntryKey) (k : EntryKey) → new ≡ insert_key key_eq old k → IsListed (map entry_of old) k.entry (map entry_of new)
listed_by old new k e = at (list_any (key_eq k) old) refl e
  where
    at : (b : Bool) → list_any (key_eq k) old ≡ b → new ≡ (if b then old else old ++ k ∷ []) → IsListed (map entry_of old) k.entry (map entry_of new)
    at true h e = listed_there (map entry_of old) (map entry_of new) k.entry (ap (map entry_of) e) (found k old h)
    at false h e = listed_new (map entry_of old) (map entry_of new) k.entry (ap (map entry_of) e ∙ map-append entry_of old (k ∷ [])) (not_found k old h)
