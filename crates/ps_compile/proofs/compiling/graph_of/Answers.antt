use Rattle.std.proofs.Common.{rules, ◌≡◌, ◌∷◌, ◌<◌, ◌^◌, ◌∙◌, true, length, List, [], sym, subst}
use Rattle.std.specs.List.{list_all}
use Rattle.ps_command.specs.Form.{FormFits}
use Rattle.ps_command.specs.Named.{is_declared_op}
use Rattle.ps_command.specs.declared.op.Op.{Op}
use Rattle.ps_compile.proofs.Facts.{choices_agree}
use Rattle.ps_compile.proofs.Graphs.{KeepsParts, parts_kept, plan_declared, plan_laid_out}
use Rattle.ps_compile.proofs.Numbering.{from_drafts}
use Rattle.ps_compile.proofs.Planning.{plan_fits, plan_has_forms}
use Rattle.ps_compile.proofs.compiling.graph_of.Goals as goal
use Rattle.ps_compile.specs.Compiled.{IsLaidOut}
use Rattle.ps_compile.specs.inner.Numbered.{AreNumberedDrafts}
use Rattle.ps_graph.specs.declared.edge.Edge.{Edge}

pub number-requires-clause-places : goal.number-requires-clause-places
number-requires-clause-places c =
    let few : length c.args.plan.owners.items < 2 ^ 32 = search rules in
    plan_fits c.args.program.now.body c.args.plan c.requires.plan few

pub setting_of-requires-clause-declared : goal.setting_of-requires-clause-declared
setting_of-requires-clause-declared c =
    from_drafts (λ (ops : List Op). list_all (is_declared_op (length c.args.program.now.globals) (length c.args.program.now.locals)) ops ≡ true)
    c.args.plan.drafts.items c.in_ok-numbered.numbered.commands.items (plan_declared c.args.program.now c.args.plan c.requires.compilable c.requires.plan) c.in_ok-numbered.ensures.used

pub setting_of-requires-clause-fits : goal.setting_of-requires-clause-fits
setting_of-requires-clause-fits c =
    from_drafts (λ (ops : List Op). ¬ (¬ FormFits ops)) c.args.plan.drafts.items c.in_ok-numbered.numbered.commands.items
    (plan_has_forms c.args.program.now.body c.args.plan c.requires.plan) c.in_ok-numbered.ensures.used

pub invariant_of-result : goal.invariant_of-result
invariant_of-result c =
    let locations : c.in_ok-locations.locations ≡ length c.args.plan.owners.items = search rules in
    let entries : c.in_ok-from_slice.field-0 ≡ 0 ∷ [] = search rules in
    let laid : IsLaidOut c.args.program.now.body c.in_ok-locations.locations c.in_ok-setting.setting.commands c.from_list.result =
    plan_laid_out c.args.program.now.body c.args.plan c.in_ok-locations.locations c.in_ok-numbered.numbered.commands.items c.in_ok-setting.setting.commands c.from_list.result
    c.requires.plan locations c.in_ok-setting.ensures.commands
    (subst (λ (es : List Edge). AreNumberedDrafts c.in_ok-numbered.numbered.commands.items c.args.plan.drafts.items es) (sym c.from_list.ensures) c.in_ok-numbered.ensures) in
    let kept : KeepsParts c.in_ok-locations.locations c.from_list.result c.in_ok-from_slice.field-0 c.from_list-2.result c.in_ok-setting.setting.commands =
    parts_kept c.args.program.now.body c.in_ok-locations.locations c.from_list.result c.in_ok-from_slice.field-0 c.from_list-2.result c.in_ok-setting.setting.commands
    laid entries (c.from_list-2.ensures ∙ c.requires.plan.owners) in
    record {
      numbers = kept.names;
      entries_own = kept.entered;
      error_final = kept.error;
      picks = kept.picks;
      stays = kept.bodies;
      deterministic = ∣ choices_agree c.args.program.now.body c.in_ok-locations.locations c.in_ok-setting.setting.commands c.from_list.result laid ∣₁;
    }

pub returns : goal.returns
returns c =
    let locations : c.in_ok-locations.locations ≡ length c.args.plan.owners.items = search rules in
    let entries : c.in_ok-from_slice.field-0 ≡ 0 ∷ [] = search rules in
    record {
      body = plan_laid_out c.args.program.now.body c.args.plan c.in_ok-locations.locations c.in_ok-numbered.numbered.commands.items c.in_ok-setting.setting.commands c.from_list.result
          c.requires.plan locations c.in_ok-setting.ensures.commands
          (subst (λ (es : List Edge). AreNumberedDrafts c.in_ok-numbered.numbered.commands.items c.args.plan.drafts.items es) (sym c.from_list.ensures) c.in_ok-numbered.ensures);
      entries = entries;
      once = search rules;
      owner = c.from_list-2.ensures ∙ c.requires.plan.owners;
      globals = c.in_ok-setting.ensures.globals;
      locals = c.in_ok-setting.ensures.locals;
      init_once = c.in_ok-setting.ensures.init_once;
      init_each = c.in_ok-setting.ensures.init_each;
    }
