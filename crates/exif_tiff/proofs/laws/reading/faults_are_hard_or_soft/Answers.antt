use Rattle.exif_tiff.proofs.SoftFaults.{faults_soft, faults_soft_under, passes_soft, refuses, header_faults_hard, too_large_exact}
use Rattle.exif_tiff.proofs.laws.reading.faults_are_hard_or_soft.Goals as goal

pub returns-clause-soft : goal.returns-clause-soft
returns-clause-soft c = faults_soft

pub returns-clause-limited : goal.returns-clause-limited
returns-clause-limited c = faults_soft_under

pub returns-clause-passed : goal.returns-clause-passed
returns-clause-passed c = passes_soft

pub returns-clause-refused : goal.returns-clause-refused
returns-clause-refused c = refuses

pub returns-clause-hard : goal.returns-clause-hard
returns-clause-hard c = header_faults_hard

pub returns-clause-too_large : goal.returns-clause-too_large
returns-clause-too_large c = too_large_exact
