use Rattle.std.proofs.Common.{rules, ◌≡◌, ◌∙◌, ap, sym, length}
use Rattle.ps_command.specs.Commands.{forms_of}
use Rattle.ps_compile.proofs.Graphs.{commands_declared, each_fits, each_names, once_fits}
use Rattle.ps_compile.proofs.setting.setting_of.Goals as goal

pub invariant_of-result : goal.invariant_of-result
invariant_of-result c =
    let globals : c.in_ok-globals.globals ≡ length c.args.program.now.globals = search rules in
    let locals : c.in_ok-locals.locals ≡ length c.args.program.now.locals = search rules in
    record {
      once_declared = once_fits c.args.program.now c.in_ok-globals.globals c.from_list.result c.requires.compilable globals (c.from_list.ensures ∙ c.in-Ok.ensures.once);
      each_declared = each_fits c.args.program.now c.in_ok-globals.globals c.in_ok-locals.locals c.from_list-2.result c.requires.compilable globals locals (c.from_list-2.ensures ∙ c.in-Ok.ensures.each);
      each_local = each_names c.args.program.now c.from_list-2.result (c.from_list-2.ensures ∙ c.in-Ok.ensures.each);
      commands_declared = commands_declared c.args.program.now c.args.commands.items c.from_list-3.result c.in_ok-globals.globals c.in_ok-locals.locals c.requires.declared c.from_list-3.ensures globals locals;
      formed = c.from_list-4.ensures ∙ c.in_ok-symbols.ensures ∙ ap forms_of (c.as_slice-3.ensures.value ∙ sym c.from_list-3.ensures);
    }
