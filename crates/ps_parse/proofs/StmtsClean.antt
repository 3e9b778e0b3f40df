-- Statements and blocks whose words have no cause of a refusal: exactly those that fit. After each, the levels are open that
-- were open before it.
use Rattle.std.proofs.Common.{◌≡◌, ℕ, ◌-◌, ◌≤◌, Bool, true, false, List, [], ◌∷◌, ◌++◌, refl, sym, ap, subst, ◌∙◌, arith, append_assoc}
use Rattle.ps_token.specs.declared.token_kind.TokenKind.TheVariants as kind
use Rattle.ps_grammar.specs.Fits.{StmtFits, RestFits}
use Rattle.ps_grammar.specs.Grammar.{StmtText, assign, havoc, assume, assert, skip, atomic, if_then, if_else, while_do, BlockText, block_end, block_more}
use Rattle.ps_grammar.specs.Names.{Names}
use Rattle.ps_grammar.specs.Spelling.{Piece, Mark, pieces, sum_pieces, cond_pieces, test_pieces, stmt_pieces, rest_pieces}
use Rattle.ps_grammar.specs.Words.{Word}
use Rattle.ps_parse.specs.declared.read_refusal.ReadRefusal.TheVariants as refusal
use Rattle.ps_parse.specs.declared.level.Level.{Level}
use Rattle.ps_parse.specs.Causes.{without_negations, block_level, levels}
use Rattle.ps_parse.proofs.WordsAllowed.{looping}
use Rattle.ps_parse.proofs.OpenLevels.{Matches, matches_block, matches_atomic, settled_block}
use Rattle.ps_parse.proofs.WordsClean.{Walk, walk_end, walk_as, walk_then, walk_ending, Asks, walk_word, by_word, spelled_kind, Here, Free, free_after, walk_piece, walk_name, Room, walk_opening}
use Rattle.ps_parse.proofs.SumsClean.{walk_mark, sum_walk}
use Rattle.ps_parse.proofs.CondsClean.{Ended, cond_walk, test_walk}

-- ---- loops

asks_loop : (inside : Bool) (back : List Word) (w : Word) (ahead : List Word) → Matches inside (levels back) → w.kind ≡ kind.While → Asks (inside ≡ false) back w ahead
asks_loop true back w ahead within e = record { fits = λ none. absurd (none (refusal.LoopInAtomic w.place) (e, within)); allows = λ out. absurd cc }
asks_loop false back w ahead within e = record { fits = λ none. refl; allows = λ out. looping back w ahead within e }

-- `while`
walk_while : {F : Type 0} {P : List Word → Type 0} {names : Names} {ls : List Level} {back ahead : List Word} {rest to : List Piece} (inside : Bool) → Matches inside ls → pieces ahead ≡ Mark kind.While ∷ rest → Here names false ls back
    → ((past left : List Word) → pieces left ≡ rest → Free names false ls past → Walk F P past left to) → Walk ((inside ≡ false) × F) P back ahead to
walk_while {F = F} {P = P} {ls = ls} {back = back} {ahead = ahead} {rest = rest} {to = to} inside within e h next =
    by_word (λ ws. Walk ((inside ≡ false) × F) P back ws to) (Mark kind.While) rest ahead e (λ w left same spelled.
    let named : w.kind ≡ kind.While = spelled_kind w (Mark kind.While) same in
    walk_word (asks_loop inside back w left (subst (Matches inside) (sym h.level) within) named) (next (w ∷ back) left spelled (free_after kind.While refl named h)))

-- ---- words that end statements

-- `;` after a sum or a name, and after a condition
walk_ended : {names : Names} {ls : List Level} {back ahead : List Word} {rest : List Piece} → without_negations ls ≡ ls → pieces ahead ≡ Mark kind.Semicolon ∷ rest → Here names false ls back → Walk (Unit {0}) (Free names false ls) back ahead rest
walk_ended {names = names} {back = back} calm e h =
    walk_piece (Mark kind.Semicolon) refl refl e h (λ w left spelled is g. walk_end (subst (λ (xs : List Level). Free names false xs (w ∷ back)) calm g) spelled)

walk_settled : {names : Names} {ls : List Level} {back ahead : List Word} {rest : List Piece} → pieces ahead ≡ Mark kind.Semicolon ∷ rest → Ended names ls back → Walk (Unit {0}) (Free names false ls) back ahead rest
walk_settled {names = names} {back = back} e h =
    walk_piece (Mark kind.Semicolon) refl refl e h.free.here (λ w left spelled is g. walk_end (subst (λ (xs : List Level). Free names false xs (w ∷ back)) h.settles g) spelled)

-- `{`, after `atomic` or not
pub walk_brace : {F : Type 0} {P : List Word → Type 0} {names : Names} {back ahead : List Word} {rest to : List Piece} (n : ℕ) (ls : List Level) (after : Bool) → Room n ls → pieces ahead ≡ Mark kind.OpenBrace ∷ rest → Here names after ls back
    → ((past left : List Word) → pieces left ≡ rest → Room (n - 1) (block_level after ∷ ls) → Free names false (block_level after ∷ ls) past → Walk F P past left to) → Walk ((1 ≤ n) × F) P back ahead to
walk_brace {back = back} n ls after room e h next =
    walk_opening kind.OpenBrace n refl refl refl room e h (λ w left opened is g. next (w ∷ back) left opened (omega (arith, room)) g)

-- ---- statements

mutual
  stmt_walk : {names : Names} {back ahead : List Word} (n : ℕ) (ls : List Level) (inside : Bool) (s : StmtText) (rest : List Piece) → Room n ls → without_negations ls ≡ ls → Matches inside ls → pieces ahead ≡ stmt_pieces s ++ rest → Free names false ls back
      → Walk (StmtFits names n inside s) (Free names false ls) back ahead rest
  stmt_walk n ls inside (assign x s) rest room calm within e f =
      walk_name x e f (λ w left named is g.
      walk_mark kind.Becomes (record { causes = refl; joins = refl; atomic = refl; level = λ after ls. refl }) named g.here (λ past more becomes h.
      walk_ending (sum_walk s (Mark kind.Semicolon ∷ rest) (becomes ∙ append_assoc (sum_pieces s) (Mark kind.Semicolon ∷ []) rest) h) (λ there ahead spelled k. walk_ended calm spelled k.here)))
  stmt_walk n ls inside (havoc x) rest room calm within e f =
      walk_mark kind.Havoc (record { causes = refl; joins = refl; atomic = refl; level = λ after ls. refl }) e f.here (λ past left begun g.
      walk_as (λ h. h.0) (λ h. (h, tt)) (λ there h. h)
      (walk_name x begun g (λ w more named is h. walk_ended calm named h.here)))
  stmt_walk n ls inside (assume c) rest room calm within e f =
      walk_mark kind.Assume (record { causes = refl; joins = refl; atomic = refl; level = λ after ls. refl }) e f.here (λ past left begun g.
      walk_ending (cond_walk n ls c (Mark kind.Semicolon ∷ rest) room calm (begun ∙ append_assoc (cond_pieces c) (Mark kind.Semicolon ∷ []) rest) g) (λ there more spelled h. walk_settled spelled h))
  stmt_walk n ls inside (assert c) rest room calm within e f =
      walk_mark kind.Assert (record { causes = refl; joins = refl; atomic = refl; level = λ after ls. refl }) e f.here (λ past left begun g.
      walk_ending (cond_walk n ls c (Mark kind.Semicolon ∷ rest) room calm (begun ∙ append_assoc (cond_pieces c) (Mark kind.Semicolon ∷ []) rest) g) (λ there more spelled h. walk_settled spelled h))
  stmt_walk n ls inside skip rest room calm within e f =
      walk_mark kind.Skip (record { causes = refl; joins = refl; atomic = refl; level = λ after ls. refl }) e f.here (λ past left begun g. walk_ended calm begun g.here)
  stmt_walk n ls inside (atomic b) rest room calm within e f =
      walk_piece (Mark kind.Atomic) refl refl e f.here (λ w left begun is g.
      walk_brace n ls true room begun g.here (λ inner body opened fewer k. rest_walk (n - 1) (block_level true) ls true b rest fewer (settled_block true ls) (matches_atomic ls) opened k))
  stmt_walk n ls inside (if_then t b) rest room calm within e f =
      walk_as (λ k. (k.0, k.1.0, k.1.1)) (λ k. (k.0, (k.1, k.2))) (λ past k. k)
      (walk_mark kind.If (record { causes = refl; joins = refl; atomic = refl; level = λ after ls. refl }) e f.here (λ past left begun g.
      walk_then (test_walk n ls t (Mark kind.OpenBrace ∷ (rest_pieces b ++ rest)) room calm (begun ∙ append_assoc (test_pieces t) (Mark kind.OpenBrace ∷ rest_pieces b) rest) g) (λ there more tested h.
      walk_brace n ls false room tested h.here (λ inner body opened fewer k. rest_walk (n - 1) (block_level false) ls inside b rest fewer (settled_block false ls) (matches_block inside ls within) opened k))))
  stmt_walk n ls inside (if_else t b c) rest room calm within e f =
      walk_as (λ k. (k.0, k.1.0.0, k.1.0.1, k.1.1.1)) (λ k. (k.0, ((k.1, k.2), (k.1, k.3)))) (λ past k. k)
      (walk_mark kind.If (record { causes = refl; joins = refl; atomic = refl; level = λ after ls. refl }) e f.here (λ past left begun g.
      walk_then (test_walk n ls t (Mark kind.OpenBrace ∷ (rest_pieces b ++ (Mark kind.Else ∷ Mark kind.OpenBrace ∷ (rest_pieces c ++ rest)))) room calm (begun ∙ append_assoc (test_pieces t) _ rest ∙ ap (λ (ps : List Piece). test_pieces t ++ (Mark kind.OpenBrace ∷ ps)) (append_assoc (rest_pieces b) (Mark kind.Else ∷ Mark kind.OpenBrace ∷ rest_pieces c) rest)) g) (λ there more tested h.
      walk_then (walk_brace n ls false room tested h.here (λ inner body opened fewer k. rest_walk (n - 1) (block_level false) ls inside b (Mark kind.Else ∷ Mark kind.OpenBrace ∷ (rest_pieces c ++ rest)) fewer (settled_block false ls) (matches_block inside ls within) opened k)) (λ behind after first k.
      walk_mark kind.Else (record { causes = refl; joins = refl; atomic = refl; level = λ after ls. refl }) first k.here (λ last end others m.
      walk_brace n ls false room others m.here (λ inner body opened fewer k. rest_walk (n - 1) (block_level false) ls inside c rest fewer (settled_block false ls) (matches_block inside ls within) opened k))))))
  stmt_walk n ls inside (while_do t b) rest room calm within e f =
      walk_as (λ k. (k.0, k.1.0, k.1.1.0, k.1.1.1)) (λ k. (k.0, (k.1, (k.2, k.3)))) (λ past k. k)
      (walk_while inside within e f.here (λ past left begun g.
      walk_then (test_walk n ls t (Mark kind.OpenBrace ∷ (rest_pieces b ++ rest)) room calm (begun ∙ append_assoc (test_pieces t) (Mark kind.OpenBrace ∷ rest_pieces b) rest) g) (λ there more tested h.
      walk_brace n ls false room tested h.here (λ inner body opened fewer k. rest_walk (n - 1) (block_level false) ls inside b rest fewer (settled_block false ls) (matches_block inside ls within) opened k))))

  pub rest_walk : {names : Names} {back ahead : List Word} (n : ℕ) (l : Level) (ls : List Level) (inside : Bool) (b : BlockText) (rest : List Piece) → Room n (l ∷ ls) → without_negations (l ∷ ls) ≡ l ∷ ls → Matches inside (l ∷ ls) → pieces ahead ≡ rest_pieces b ++ rest → Free names false (l ∷ ls) back
      → Walk (RestFits names n inside b) (Free names false ls) back ahead rest
  rest_walk n l ls inside block_end rest room calm within e f = walk_piece (Mark kind.CloseBrace) refl refl e f.here (λ w left spelled is g. walk_end g spelled)
  rest_walk n l ls inside (block_more s b) rest room calm within e f =
      walk_then (stmt_walk n (l ∷ ls) inside s (rest_pieces b ++ rest) room calm within (e ∙ append_assoc (stmt_pieces s) (rest_pieces b) rest) f) (λ past left spelled g.
      rest_walk n l ls inside b rest room calm within spelled g)
