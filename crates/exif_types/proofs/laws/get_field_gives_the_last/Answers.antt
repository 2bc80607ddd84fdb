use Rattle.std.specs.Prelude.{MatchOption}
use Rattle.std.specs.Option.{option_copied}
use Rattle.exif_types.specs.Lookup.{IsLastNamed, NoneNamed}
use Rattle.exif_types.proofs.LawsLemmas.{last_is_last, if_found, if_none}
use Rattle.exif_types.proofs.laws.get_field_gives_the_last.Goals as goal

-- what was found is the last of its name, or there is none
found : (c : goal.After-get_field) → MatchOption (option_copied c.get_field.result)
    (NoneNamed c.args.tag c.args.ifd_num c.fields.result) (IsLastNamed c.args.tag c.args.ifd_num c.fields.result)
found c = rw (c.get_field.ensures, c.fields.ensures.fields) (last_is_last c.args.exif.now.fields c.args.tag c.args.ifd_num)

pub returns-clause-last : goal.returns-clause-last
returns-clause-last c =
    if_found (NoneNamed c.args.tag c.args.ifd_num c.fields.result) (IsLastNamed c.args.tag c.args.ifd_num c.fields.result) (option_copied c.get_field.result) (found c)

pub returns-clause-none : goal.returns-clause-none
returns-clause-none c =
    if_none (NoneNamed c.args.tag c.args.ifd_num c.fields.result) (IsLastNamed c.args.tag c.args.ifd_num c.fields.result) c.get_field.result (found c)
