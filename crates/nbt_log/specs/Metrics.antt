-- Metrics in Prometheus' text format.
use Rattle.std.specs.Prelude.{ℕ, ◌/◌, ◌%◌, List, [], ◌∷◌, ◌++◌, codes}
use Rattle.std.specs.Borrow.{Bor}
use Rattle.std.specs.Fmt.{decimal}

-- what a metric is, and its type
abbrev pub help_text : (name help : List ℕ) → List ℕ
help_text name help = codes "# HELP nbt_nbns_" ++ name ++ codes " " ++ help ++ codes "\n"

abbrev pub type_text : (name type : List ℕ) → List ℕ
type_text name type = codes "# TYPE nbt_nbns_" ++ name ++ codes " " ++ type ++ codes "\n"

abbrev pub head_text : (name type help : List ℕ) → List ℕ
head_text name type help = help_text name help ++ type_text name type

-- labels and a value
abbrev pub Sample : Type 0
Sample = List ℕ × ℕ

abbrev pub sample_text : (name : List ℕ) → Sample → List ℕ
sample_text name sample = codes "nbt_nbns_" ++ name ++ sample.0 ++ codes " " ++ decimal sample.1 ++ codes "\n"

abbrev pub samples_text : (name : List ℕ) → List Sample → List ℕ
samples_text name [] = []
samples_text name (sample ∷ samples) = sample_text name sample ++ samples_text name samples

abbrev pub metric_text : (name type help : List ℕ) → List Sample → List ℕ
metric_text name type help samples = head_text name type help ++ samples_text name samples

-- a sample as a program has it
abbrev pub sample_of : Bor (List ℕ) × ℕ → Sample
sample_of sample = (sample.0.now, sample.1)

-- milliseconds in seconds
abbrev pub seconds_text : (milliseconds : ℕ) → List ℕ
seconds_text milliseconds = decimal (milliseconds / 1000) ++ codes "." ++ decimal (milliseconds / 100 % 10) ++ decimal (milliseconds / 10 % 10) ++ decimal (milliseconds % 10) ++ codes "\n"

abbrev pub seconds_metric : (name type help : List ℕ) → (milliseconds : ℕ) → List ℕ
seconds_metric name type help milliseconds = head_text name type help ++ (codes "nbt_nbns_" ++ name ++ codes " ") ++ seconds_text milliseconds
