-- The subcommands.
use Rattle.std.specs.Prelude.{ℕ, if◌then◌else◌, List, Bool, true, false, Option, codes, String}
use Rattle.std.specs.Global.{Global}
use Rattle.std.specs.Str.{bytes_eq}
use Rattle.clap.specs.declared.builder.command.Command.{Command}
use Rattle.clap.specs.declared.builder.command.Command.TheViews.{out-Command}

-- the name of a command that its usage shows, if it is not its own
abbrev pub shown_name_of : Command → Option (String Global)
shown_name_of command = (out-Command command).bin_name

-- Words of these subcommands can be wrong in a way that the parse does not see. `query`, `page` and
-- `tags` take their words as they are.
abbrev pub can_be_wrong : List ℕ → Bool
can_be_wrong name =
    if bytes_eq name (codes "show") then true else
    if bytes_eq name (codes "json") then true else
    if bytes_eq name (codes "table") then true else
    if bytes_eq name (codes "check") then true else
    if bytes_eq name (codes "scrub") then true else
    if bytes_eq name (codes "set") then true else
    if bytes_eq name (codes "shift") then true else
    if bytes_eq name (codes "copy") then true else
    if bytes_eq name (codes "rename") then true else
    if bytes_eq name (codes "geotag") then true else
    if bytes_eq name (codes "touch") then true else
    if bytes_eq name (codes "thumbnail") then true else
    if bytes_eq name (codes "catalog") then true else false
