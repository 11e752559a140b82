use Rattle.std.proofs.Common.{◌≡◌, ◌≤◌, length, ◌∙◌, ap, arith}
use Rattle.ring_base.specs.Prefixes.{prefix_length}
use Rattle.ring_world.specs.WorldView.{WorldView}
use Rattle.ring_console.proofs.RunGoesOn.{ends_told}
use Rattle.ring_console.proofs.script_run.ScriptRun.run_and_print_line.Goals as goal

pub print_since-requires : goal.print_since-requires
print_since-requires g c =
    let grew : length c.args.self.now.world_view.told ≤ length c.run_line_silently-done.new.self.world_view.told =
    prefix_length _ _ (ends_told g.O.Object.sequential c.run_line_silently-done.result c.args.line c.args.self.now c.run_line_silently-done.new.self c.run_line_silently-done.ensures.ends) in
    let was : c.told-before.result.now ≡ c.args.self.now.world_view.told = c.told-before.ensures.told
    ∙ ap (λ (p : WorldView g.row.O-Alloc.Denot). p.told) c.world.ensures in
    omega (arith, grew, ap length was)
