pub mod StepsTold
