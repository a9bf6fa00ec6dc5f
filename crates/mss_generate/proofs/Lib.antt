mod PutSteps
mod Told
