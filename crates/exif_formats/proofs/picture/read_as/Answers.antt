use Rattle.std.proofs.Common.{rules, ℕ, ◌-◌, ◌^◌, List, ap, sym}
use Rattle.exif_tiff.specs.Answers as tiff
use Rattle.exif_tiff.specs.Answers.{raw_answer}
use Rattle.exif_containers.specs.GoingBack.{BeginsAt}
use Rattle.exif_formats.specs.Jxl.{jxl_answer}
use Rattle.exif_containers.specs.Png.{png_answer}
use Rattle.exif_formats.specs.Raf.{behind_limit, raf_answer}
use Rattle.exif_reader.specs.declared.reader.Reader.{Reader}
use Rattle.exif_formats.proofs.DataGiven.{by_data, by_raf, cr3_reads, jxl_reads, known_reads, png_data_reads, png_reads, raf_reads, read_so}
use Rattle.exif_formats.proofs.picture.read_as.Goals as goal

abbrev answers : Reader → List ℕ → tiff.Answer
answers reader = raw_answer reader.lenient reader.limit

pub returns-in-Some-Png-clause-reads : goal.returns-in-Some-Png-clause-reads
returns-in-Some-Png-clause-reads g c =
    let now = g.R.Source.left c.args.source.now in
    let begun : Type 0 = BeginsAt c.args.origin (g.R.Source.stream c.args.source.now) now in
    let read = raw_answer c.reader-reader.result.lenient c.reader-reader.result.limit in
    read_so read (raw_answer c.args.options.lenient c.args.options.limit) c.args.format now c.read_data.result begun
    (ap answers c.reader-reader.ensures)
    (png_reads read c.args.format now c.read_data.result begun (search rules)
    (png_data_reads read now c.read_data.result begun
    ((by_data read (png_answer (2 ^ 64 - 1)) now (g.R.Source.left c.get_exif_attr_from_png.new.source) c.get_exif_attr_from_png.result c.read_data.result begun
    c.get_exif_attr_from_png.ensures.found c.get_exif_attr_from_png.ensures.refused c.read_data.ensures.reads))))

pub returns-in-Some-JpegXl-clause-reads : goal.returns-in-Some-JpegXl-clause-reads
returns-in-Some-JpegXl-clause-reads g c =
    let now = g.R.Source.left c.args.source.now in
    let begun : Type 0 = BeginsAt c.args.origin (g.R.Source.stream c.args.source.now) now in
    let read = raw_answer c.reader-reader.result.lenient c.reader-reader.result.limit in
    read_so read (raw_answer c.args.options.lenient c.args.options.limit) c.args.format now c.read_data-in-Some-JpegXl.result begun
    (ap answers c.reader-reader.ensures)
    (jxl_reads read c.args.format now c.read_data-in-Some-JpegXl.result begun (search rules)
    ((by_data read jxl_answer now (g.R.Source.left c.get_exif_attr_from_jxl.new.source) c.get_exif_attr_from_jxl.result c.read_data-in-Some-JpegXl.result begun
    c.get_exif_attr_from_jxl.ensures.found c.get_exif_attr_from_jxl.ensures.refused c.read_data-in-Some-JpegXl.ensures.reads)))

pub returns-in-Some-Raf-clause-reads : goal.returns-in-Some-Raf-clause-reads
returns-in-Some-Raf-clause-reads g c =
    let now = g.R.Source.left c.args.source.now in
    let begun : Type 0 = BeginsAt c.args.origin (g.R.Source.stream c.args.source.now) now in
    let read = raw_answer c.reader-reader.result.lenient c.reader-reader.result.limit in
    read_so read (raw_answer c.args.options.lenient c.args.options.limit) c.args.format now c.read_data-in-Some-Raf.result begun
    (ap answers c.reader-reader.ensures)
    (raf_reads read c.args.format now c.read_data-in-Some-Raf.result begun (search rules)
    ((by_raf read raf_answer behind_limit now (g.R.Source.left c.get_exif_attr.new.source) c.get_exif_attr.result c.read_data-in-Some-Raf.result begun
    c.get_exif_attr.ensures.found c.get_exif_attr.ensures.refused c.read_data-in-Some-Raf.ensures.reads)))

pub returns-in-Some-Cr3-clause-reads : goal.returns-in-Some-Cr3-clause-reads
returns-in-Some-Cr3-clause-reads g c =
    let now = g.R.Source.left c.args.source.now in
    cr3_reads (raw_answer c.args.options.lenient c.args.options.limit) c.args.format now c.read_cr3.result
    (BeginsAt c.args.origin (g.R.Source.stream c.args.source.now) now)
    (search rules) c.read_cr3.ensures.reads

pub returns-in_default-clause-reads : goal.returns-in_default-clause-reads
returns-in_default-clause-reads g c =
    let now = g.R.Source.left c.args.source.now in
    let begun : Type 0 = BeginsAt c.args.origin (g.R.Source.stream c.args.source.now) now in
    let read = raw_answer c.reader-reader.result.lenient c.reader-reader.result.limit in
    read_so read (raw_answer c.args.options.lenient c.args.options.limit) c.args.format now c.read_as.result begun
    (ap answers c.reader-reader.ensures)
    (known_reads read c.args.format now c.read_as.result begun (search rules) (search rules) (search rules) (search rules)
    (rw (sym c.container_of.ensures) c.read_as.ensures.reads))
